-- What the tests find is in the map.
use Rattle.std.proofs.Common.{◌≡◌, ℕ, true, List, Option, Some, None, IsSome, refl, subst}
use Rattle.std.specs.BTreeMap.{is_at}
use Rattle.std.specs.Map.{lookup}
use Rattle.std.specs.Option.{option_map}
use Rattle.std.specs.Prelude.{is_some}
use Rattle.var_region.specs.declared.found.Found.{Found}
use Rattle.var_region.specs.Found.{seen_variable}
use Rattle.var_types.specs.declared.key.Key.{Key}
use Rattle.var_types.specs.declared.store.Store.TheVariants.{NonVolatile}
use Rattle.var_types.specs.Key.{key_cmp}
use Rattle.var_types.specs.Region.{Region, region_map}
use Rattle.var_types.specs.Stores.{map_in, store_region}

pub found_there : (found : Option Found) (region : Region) (key : Key) (bytes : List ℕ) → is_some found ≡ true
    → option_map seen_variable found ≡ lookup (is_at (key_cmp key)) (region_map region) → region ≡ store_region NonVolatile bytes
    → IsSome (lookup (is_at (key_cmp key)) (map_in NonVolatile bytes))
unfolding map_in
found_there None region key bytes is e same = cc
found_there (Some found) region key bytes is e same =
    subst (λ r. IsSome (lookup (is_at (key_cmp key)) (region_map r))) same (subst (λ o. IsSome o) e refl)
