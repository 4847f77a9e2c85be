use Rattle.std.proofs.Common.{◌≡◌}
use Rattle.std.specs.Option.{option_map}
use Rattle.var_types.specs.Chosen.{chosen, chosen_from}
use Rattle.var_types.specs.Region.{region_lives}
use Rattle.var_region.specs.Found.{seen}
use Rattle.var_region.specs.Wanted.{wanted_key}
use Rattle.var_region.proofs.find.search.Given as goal

abbrev pub invariant-loop-found : goal.invariant-loop-found
invariant-loop-found l =
    chosen_from (wanted_key l.wanted) (option_map seen l.held) l.found-iterator ≡ chosen (wanted_key l.wanted) (region_lives l.region)
