use Rattle.var_types.proofs.Censuses.{kinds_add_up}
use Rattle.var_types.proofs.laws.kinds_of_records_add_up.Goals as goal

pub returns : goal.returns
returns c = kinds_add_up
