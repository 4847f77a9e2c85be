use Rattle.var_trace.proofs.StoresAfter.{are_after}
use Rattle.var_trace.proofs.laws.changes_follow_the_history.Goals as goal

pub returns : goal.returns
returns c = are_after
