use Rattle.var_types.proofs.SetChanges.{follows, step_decided}
use Rattle.var_types.proofs.set_laws.decisions_decide.Goals as goal

pub returns : goal.returns
returns c = λ state call d is. (step_decided state call d is, follows state call d is)
