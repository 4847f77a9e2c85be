use Rattle.std.specs.Prelude.{ℕ, List}
use Rattle.var_types.specs.declared.answered.Answered.{Answered}

-- the answered calls of one processor, in order, and how many there may be (this project's own)
pub record AnsweredCalls : Type 0 where
  pub answered : List Answered
  pub limit : ℕ
