use Rattle.var_types.proofs.Walks.{walk_all}
use Rattle.var_types.proofs.laws.walks_answer_each_key_once.Goals as goal

pub returns : goal.returns
returns c = λ state room guid keys sound wide. walk_all state sound room wide guid keys
