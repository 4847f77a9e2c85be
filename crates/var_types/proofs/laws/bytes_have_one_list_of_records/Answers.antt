use Rattle.var_types.proofs.Records.{has_all, one}
use Rattle.var_types.specs.Record.{records}
use Rattle.var_types.proofs.laws.bytes_have_one_list_of_records.Goals as goal

pub returns-clause-have : goal.returns-clause-have
returns-clause-have c = has_all

pub returns-clause-one : goal.returns-clause-one
returns-clause-one c = λ form bytes at rs h. one form bytes at rs (records form bytes at) h (has_all form bytes at)
