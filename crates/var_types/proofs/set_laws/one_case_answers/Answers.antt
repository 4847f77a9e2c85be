use Rattle.var_types.proofs.SetCases.{first_answers, first_one}
use Rattle.var_types.specs.Reading.{reading_of}
use Rattle.var_types.specs.Set.{cases, change_of, decision}
use Rattle.var_types.proofs.set_laws.one_case_answers.Goals as goal

pub returns-clause-one : goal.returns-clause-one
unfolding decision
returns-clause-one c = λ state call. first_answers (change_of (reading_of state call)) (cases state (reading_of state call))

pub returns-clause-no_other : goal.returns-clause-no_other
unfolding decision
returns-clause-no_other c = λ state call d a. first_one (change_of (reading_of state call)) d (cases state (reading_of state call)) a
