use Rattle.var_types.proofs.Soundness.{IsSound-run, IsSound-start}
use Rattle.var_types.proofs.laws.changes_keep_soundness.Goals as goal

pub returns-clause-start : goal.returns-clause-start
returns-clause-start c = IsSound-start

pub returns-clause-kept : goal.returns-clause-kept
returns-clause-kept c = IsSound-run
