use Rattle.var_types.proofs.Bests.{off_denies_nothing}
use Rattle.var_types.proofs.policy_laws.off_denies_nothing.Goals as goal

pub returns : goal.returns
returns c = off_denies_nothing
