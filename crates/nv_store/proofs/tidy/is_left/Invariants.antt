use Rattle.std.proofs.Common.{◌≡◌, length}
use Rattle.std.specs.List.{list_any}
use Rattle.var_region.specs.Found.{seen_key}
use Rattle.nv_store.specs.Places.{stands_in}
use Rattle.nv_store.proofs.tidy.is_left.Given as goal

abbrev pub invariant-loop-other : goal.invariant-loop-other
invariant-loop-other l =
    list_any (stands_in l.found.state (seen_key l.found)) l.left ≡ list_any (stands_in l.found.state (seen_key l.found)) l.fn.left

abbrev pub decreases-loop-other : goal.decreases-loop-other
decreases-loop-other l = length l.left
