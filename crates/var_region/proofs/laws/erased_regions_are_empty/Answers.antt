use Rattle.var_region.proofs.Erased.{IsEmptyRegion-erased}
use Rattle.var_region.proofs.laws.erased_regions_are_empty.Goals as goal

pub returns : goal.returns
returns c = IsEmptyRegion-erased
