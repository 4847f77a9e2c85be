use Rattle.var_types.proofs.PolicyTables.{locked_run}
use Rattle.var_types.proofs.policy_laws.locked_policies_stay.Goals as goal

pub returns : goal.returns
returns c = locked_run
