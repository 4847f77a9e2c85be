use Rattle.var_types.proofs.PolicyTables.{best_kept, denied_by_best}
use Rattle.var_types.proofs.policy_laws.the_best_policy_decides.Goals as goal

pub returns-clause-alone : goal.returns-clause-alone
returns-clause-alone c = denied_by_best

pub returns-clause-later : goal.returns-clause-later
returns-clause-later c = best_kept
