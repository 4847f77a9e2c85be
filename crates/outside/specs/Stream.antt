use Rattle.std.specs.Prelude.{ℕ, List, Option}

-- a stream of std: the bytes that its type tells, left or held, and how many calls have failed
pub record Stream : Type 0 where
  pub known : Option (List ℕ)
  pub faults : ℕ
