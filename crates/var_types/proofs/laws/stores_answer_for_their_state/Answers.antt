use Rattle.var_types.proofs.Meaning.{apart_stores, get_of_stores, next_of_stores}
use Rattle.var_types.proofs.laws.stores_answer_for_their_state.Goals as goal

pub returns-clause-apart : goal.returns-clause-apart
returns-clause-apart c = apart_stores

pub returns-clause-alike : goal.returns-clause-alike
returns-clause-alike c = λ stores state ordered means. (get_of_stores stores state ordered means, next_of_stores stores state ordered means)
