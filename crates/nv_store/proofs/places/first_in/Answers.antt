use Rattle.std.proofs.Common.{◌∙◌, ap, subst, sym}
use Rattle.std.specs.List.{AllByRecursion}
use Rattle.var_region.proofs.Stored.{LiveRecordsStandWhole-all}
use Rattle.var_region.specs.WritingLaws.{StandsWhole}
use Rattle.var_types.specs.Key.{key_of}
use Rattle.nv_store.specs.Places.{first_in}
use Rattle.nv_store.proofs.places.first_in.Goals as goal

pub loop-found-init : goal.loop-found-init
loop-found-init c =
    let is = c.into_iter-found-iterator.ensures.into_iter_gives ∙ c.lives-found-items.ensures.lives in
    record {
      first = ap (first_in c.args.state (key_of c.args.guid.now c.args.name.now)) is;
      whole = subst (AllByRecursion (StandsWhole c.args.region.now)) (sym is) (LiveRecordsStandWhole-all c.args.region.now);
      few = c.lives-found-items.ensures.few;
    }
