use Rattle.std.specs.Prelude.{ℕ, Bool}

-- a flash over a file: whether the file was opened, its length, and how many calls have failed
pub record FileState : Type 0 where
  pub opened : Bool
  pub size : ℕ
  pub faults : ℕ
