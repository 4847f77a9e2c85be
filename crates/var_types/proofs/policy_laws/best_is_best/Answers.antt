use Rattle.var_types.proofs.Bests.{best_is}
use Rattle.var_types.proofs.policy_laws.best_is_best.Goals as goal

pub returns : goal.returns
returns c = best_is
