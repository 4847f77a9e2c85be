use Rattle.var_types.proofs.SetEffects.{appends_join}
use Rattle.var_types.proofs.set_laws.appends_join.Goals as goal

pub returns : goal.returns
returns c = λ state call joined variable append is key asked payload. appends_join state call joined variable append is asked payload
