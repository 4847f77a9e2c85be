use Rattle.var_types.proofs.SetEffects.{one_change, others_leave}
use Rattle.var_types.proofs.set_laws.changes_touch_their_key.Goals as goal

pub returns-clause-others : goal.returns-clause-others
returns-clause-others c = others_leave

pub returns-clause-one : goal.returns-clause-one
returns-clause-one c = one_change
