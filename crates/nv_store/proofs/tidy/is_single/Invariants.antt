use Rattle.std.proofs.Common.{◌≡◌, length}
use Rattle.var_types.specs.Region.{region_lives}
use Rattle.nv_store.specs.Tidy.{are_single}
use Rattle.nv_store.proofs.tidy.is_single.Given as goal

abbrev pub invariant-loop-found : goal.invariant-loop-found
invariant-loop-found l = are_single l.left ≡ are_single (region_lives l.region)

abbrev pub decreases-loop-found : goal.decreases-loop-found
decreases-loop-found l = length l.left
