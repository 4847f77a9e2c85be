use Rattle.std.specs.Prelude.{ℕ, List}
use Rattle.var_trace.specs.declared.change.Change.{Change}

-- the changes so far, in order, and how many there may be (this project's own)
pub record Recorded : Type 0 where
  pub log : List Change
  pub limit : ℕ
