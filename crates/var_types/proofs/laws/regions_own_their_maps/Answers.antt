use Rattle.var_types.proofs.Owned.{owned_region}
use Rattle.var_types.proofs.laws.regions_own_their_maps.Goals as goal

pub returns : goal.returns
returns c = owned_region
