-- A cache that has taken what ranges cover.
use Rattle.std.proofs.Common.{◌≡◌, sym}
use Rattle.pending_range.proofs.Taken.{taken_all}
use Rattle.pending_range.specs.declared.ranges.Ranges.{Ranges}
use Rattle.pending_range.specs.Ranges.{AgreeOutside, is_covered}
use Rattle.runtime_cache.specs.Merged.{merged}
use Rattle.var_types.specs.declared.store.Store.TheVariants.{NonVolatile, Volatile}
use Rattle.var_types.specs.Stores.{Stores}

-- where it agreed with the stores outside of what the ranges cover, it is the stores
pub merged_all : (ranges : Ranges) (cache stores : Stores) → AgreeOutside ranges cache stores → merged ranges cache stores ≡ stores
unfolding merged
merged_all ranges cache stores agree =
    let first = taken_all (is_covered ranges NonVolatile) stores.non_volatile cache.non_volatile (sym (agree.sizes NonVolatile)) (agree.outside NonVolatile) in
    let second = taken_all (is_covered ranges Volatile) stores.volatile cache.volatile (sym (agree.sizes Volatile)) (agree.outside Volatile) in
    λ i. record { non_volatile = first i; volatile = second i; runtime = stores.runtime }
