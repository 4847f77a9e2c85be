use Rattle.var_region.proofs.Steps.{BodiesKeepTheHeader-all, HeadersBegin-all, StepsLeaveTheirBytes-all}
use Rattle.var_region.proofs.laws.appends_go_by_steps.Goals as goal

pub returns-clause-header : goal.returns-clause-header
returns-clause-header c = HeadersBegin-all

pub returns-clause-body : goal.returns-clause-body
returns-clause-body c = BodiesKeepTheHeader-all

pub returns-clause-bytes : goal.returns-clause-bytes
returns-clause-bytes c = StepsLeaveTheirBytes-all
