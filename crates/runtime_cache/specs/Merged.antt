-- What a cache holds once it has taken what ranges cover.
use Rattle.std.specs.Prelude.{◌≡◌}
use Rattle.pending_range.specs.declared.ranges.Ranges.{Ranges}
use Rattle.pending_range.specs.Ranges.{AgreeOutside, is_covered, taken}
use Rattle.var_types.specs.declared.store.Store.TheVariants.{NonVolatile, Volatile}
use Rattle.var_types.specs.Stores.{Stores}

-- a cache with the bytes of the stores that ranges cover, and with their phase; all its other bytes stay (EDK II, FlushPendingRuntimeVariableCacheUpdates)
unfoldable pub merged : Ranges → Stores → Stores → Stores
merged ranges cache stores = record {
  non_volatile = taken (is_covered ranges NonVolatile) stores.non_volatile cache.non_volatile;
  volatile = taken (is_covered ranges Volatile) stores.volatile cache.volatile;
  runtime = stores.runtime;
}

-- a cache that agrees with the stores outside of what ranges cover is the stores once it has taken that
abbrev pub MergedCachesAreTheStores : Type 0
MergedCachesAreTheStores = (ranges : Ranges) (cache stores : Stores) → AgreeOutside ranges cache stores → merged ranges cache stores ≡ stores
