use Rattle.std.proofs.Common.{◌≡◌, None}
use Rattle.std.specs.Option.{option_map}
use Rattle.var_types.specs.Least.{least_from}
use Rattle.var_types.specs.Region.{region_lives}
use Rattle.var_region.specs.Found.{seen_key}
use Rattle.var_region.specs.Wanted.{wanted_key}
use Rattle.var_region.proofs.above.least.Given as goal

abbrev pub invariant-loop-found : goal.invariant-loop-found
invariant-loop-found l =
    least_from (option_map wanted_key l.bound) (option_map seen_key l.held) l.found-iterator
    ≡ least_from (option_map wanted_key l.bound) None (region_lives l.region)
