use Rattle.var_types.proofs.Bests.{later_on, not_itself, one_later}
use Rattle.var_types.proofs.policy_laws.stamps_are_in_order.Goals as goal

pub returns-clause-itself : goal.returns-clause-itself
returns-clause-itself c = not_itself

pub returns-clause-passed_on : goal.returns-clause-passed_on
returns-clause-passed_on c = later_on

pub returns-clause-one : goal.returns-clause-one
returns-clause-one c = one_later
