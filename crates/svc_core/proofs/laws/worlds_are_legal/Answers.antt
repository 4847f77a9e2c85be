use Rattle.svc_core.proofs.Keeps.{legal}
use Rattle.svc_core.proofs.laws.worlds_are_legal.Goals as goal

pub returns : goal.returns
returns c = legal
