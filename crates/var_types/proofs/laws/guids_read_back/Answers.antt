use Rattle.var_types.proofs.Guids.{guid_of-guid_text}
use Rattle.var_types.proofs.laws.guids_read_back.Goals as goal

pub returns : goal.returns
returns c = guid_of-guid_text
