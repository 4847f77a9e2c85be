use Rattle.std.proofs.Common.{ap, subst, sym, ◌∙◌, bit_and}
use Rattle.var_region.specs.Written.{state_set}
use Rattle.var_types.specs.Key.{key_of}
use Rattle.nv_store.specs.Steps.{IsOutdated, IsPlace}
use Rattle.nv_store.proofs.Turned.{at_some, outdated_at, outdated_nowhere}
use Rattle.nv_store.proofs.within.outdate.Goals as goal

pub returns-in-Some : goal.returns-in-Some
returns-in-Some c =
    let key = key_of c.args.guid.now c.args.name.now in
    let place = at_some (IsPlace c.args.store c.args.bytes.now 0x3F) c.place_of.result c.in-Some.at c.place_of.ensures.place c.in-Some.is in
    subst (IsOutdated c.args.store key c.args.bytes.now)
    (sym (c.mark.ensures ∙ ap (λ b. state_set c.in-Some.at (bit_and b 0xFE) c.args.bytes.now) place.byte))
    (outdated_at c.args.store key c.args.bytes.now c.place_of.result c.in-Some.at c.place_of.ensures.first c.in-Some.is c.requires.added c.requires.no_twin)

pub returns-in_default : goal.returns-in_default
returns-in_default c =
    outdated_nowhere c.args.store (key_of c.args.guid.now c.args.name.now) c.args.bytes.now c.place_of.result c.place_of.ensures.first c.in_default.is c.requires.few_twins
