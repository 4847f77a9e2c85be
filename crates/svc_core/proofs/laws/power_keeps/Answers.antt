use Rattle.svc_core.proofs.Powers.{keeps_left}
use Rattle.svc_core.proofs.laws.power_keeps.Goals as goal

pub returns : goal.returns
returns c = λ w left k may. keeps_left w left k may
