use Rattle.std.specs.Prelude.{ℕ, List}

-- a source in memory: the bytes that are left, the numbers of the calls that fail, and how many calls were made and have failed
pub record Supply : Type 0 where
  pub left : List ℕ
  pub fails : List ℕ
  pub calls : ℕ
  pub faults : ℕ
