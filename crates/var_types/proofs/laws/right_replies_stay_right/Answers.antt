use Rattle.var_types.proofs.LegalSessions.{IsRightAt-longer}
use Rattle.var_types.proofs.laws.right_replies_stay_right.Goals as goal

pub returns : goal.returns
returns c = IsRightAt-longer
