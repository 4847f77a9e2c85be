use Rattle.var_types.proofs.Maps.{map_exact, same_region_map}
use Rattle.var_types.proofs.laws.maps_hold_what_counts.Goals as goal

pub returns-clause-ordered : goal.returns-clause-ordered
returns-clause-ordered c = λ ls. (map_exact ls).ordered

pub returns-clause-holds : goal.returns-clause-holds
returns-clause-holds c = λ ls. (map_exact ls).holds

pub returns-clause-same : goal.returns-clause-same
returns-clause-same c = same_region_map
