use Rattle.std.specs.Prelude.{ℕ, zero, suc, List, [], ◌∷◌, ◌++◌, map}
use Rattle.var_types.specs.declared.answered.Answered.{Answered}
use Rattle.var_trace.specs.Answers.{AnsweredCalls}
use Rattle.var_trace.specs.Recorded.{Recorded}

-- what happened: the changes so far, and the answered calls of each processor, from processor 0 on (this project's own)
pub record SessionParts : Type 0 where
  pub entries : Recorded
  pub processors : List AnsweredCalls

-- the answered calls of each processor
abbrev pub answers_of : SessionParts → List (List Answered)
answers_of session = map (λ answers. answers.answered) session.processors

-- those of one processor
abbrev pub calls_answered : List AnsweredCalls → ℕ → List Answered
calls_answered [] processor = []
calls_answered (answers ∷ rest) zero = answers.answered
calls_answered (answers ∷ rest) (suc processor) = calls_answered rest processor

-- the answered calls of which one processor's have one more
abbrev pub with_answered : List AnsweredCalls → ℕ → Answered → List AnsweredCalls
with_answered [] processor answered = []
with_answered (answers ∷ rest) zero answered = record answers { answered = answers.answered ++ answered ∷ [] } ∷ rest
with_answered (answers ∷ rest) (suc processor) answered = answers ∷ with_answered rest processor answered
