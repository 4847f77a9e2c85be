use Rattle.std.specs.Prelude.{ℕ, List}

-- a sink in memory: the bytes that it holds, how many more fit, the numbers of the calls that fail, and how many calls were made and have failed
pub record Shelf : Type 0 where
  pub held : List ℕ
  pub space : ℕ
  pub fails : List ℕ
  pub calls : ℕ
  pub faults : ℕ
