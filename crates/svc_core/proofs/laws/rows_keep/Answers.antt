use Rattle.svc_core.proofs.Keeps.{happen_keeps, keeps}
use Rattle.svc_core.proofs.laws.rows_keep.Goals as goal

pub returns-clause-rows : goal.returns-clause-rows
returns-clause-rows c = keeps

pub returns-clause-events : goal.returns-clause-events
returns-clause-events c = happen_keeps
