use Rattle.var_types.proofs.SetEffects.{hidden_stays, runtime_seen}
use Rattle.var_types.proofs.set_laws.hidden_variables_stay.Goals as goal

pub returns-clause-seen : goal.returns-clause-seen
returns-clause-seen c = runtime_seen

pub returns-clause-hidden : goal.returns-clause-hidden
returns-clause-hidden c = hidden_stays
