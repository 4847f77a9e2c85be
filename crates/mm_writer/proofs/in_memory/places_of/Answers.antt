use Rattle.std.proofs.Common.{ap, ◌∙◌}
use Rattle.mm_writer.proofs.InMemory.{places_within}
use Rattle.mm_writer.specs.KeyPlaces.{places_in}
use Rattle.var_types.specs.Key.{key_of}
use Rattle.var_types.specs.Region.{region_lives}
use Rattle.mm_writer.proofs.in_memory.places_of.Goals as goal

pub returns-clause-added : goal.returns-clause-added
returns-clause-added c =
    (places_within (key_of c.args.guid.now c.args.name.now) c.args.bytes.now c.requires c.of.result
    (c.of.ensures ∙ ap (λ region. places_in (key_of c.args.guid.now c.args.name.now) (region_lives region)) c.region_in.ensures)).added

pub returns-clause-in_transition : goal.returns-clause-in_transition
returns-clause-in_transition c =
    (places_within (key_of c.args.guid.now c.args.name.now) c.args.bytes.now c.requires c.of.result
    (c.of.ensures ∙ ap (λ region. places_in (key_of c.args.guid.now c.args.name.now) (region_lives region)) c.region_in.ensures)).in_transition
