use Rattle.region_compact.proofs.MapAfter.{VariablesFit-all}
use Rattle.region_compact.proofs.laws.variables_fit.Goals as goal

pub returns : goal.returns
returns c = VariablesFit-all
