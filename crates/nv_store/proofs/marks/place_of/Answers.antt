use Rattle.std.proofs.Common.{IfSome, ap, subst, sym, ◌∙◌}
use Rattle.std.specs.Option.{option_map}
use Rattle.var_types.specs.Key.{key_of}
use Rattle.var_types.specs.Live.{Live}
use Rattle.var_types.specs.Region.{Region, region_lives}
use Rattle.var_region.specs.WritingLaws.{state_byte}
use Rattle.nv_store.specs.Places.{first_in}
use Rattle.nv_store.specs.Steps.{IsPlace}
use Rattle.nv_store.proofs.Standing.{place_is}
use Rattle.nv_store.proofs.marks.place_of.Goals as goal

pub returns-clause-place : goal.returns-clause-place
returns-clause-place c =
    let key = key_of c.args.guid.now c.args.name.now in
    subst (λ found. IfSome found (IsPlace c.args.store c.args.bytes.now (state_byte c.args.state)))
    (sym (c.first_in.ensures.first ∙ ap (λ (r : Region). option_map (λ (live : Live). live.at) (first_in c.args.state key (region_lives r))) c.region_in.ensures))
    (place_is c.args.store c.args.bytes.now c.args.state key)
