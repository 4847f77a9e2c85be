use Rattle.std.proofs.Common.{◌≡◌}
use Rattle.std.specs.Option.{option_map}
use Rattle.var_types.proofs.Least.{keys_left, shown_above, shown_from}
use Rattle.var_types.specs.Region.{region_lives}
use Rattle.var_region.specs.Found.{seen_key}
use Rattle.var_region.specs.Wanted.{wanted_key}
use Rattle.var_region.proofs.above.above.Given as goal

abbrev pub invariant-keys : goal.invariant-keys
invariant-keys l =
    shown_from (region_lives l.region) l.runtime (option_map seen_key l.low)
    ≡ shown_above (region_lives l.region) l.runtime (option_map wanted_key l.bound)

abbrev pub decreases-keys : goal.decreases-keys
decreases-keys l = keys_left (region_lives l.region) (option_map seen_key l.low)
