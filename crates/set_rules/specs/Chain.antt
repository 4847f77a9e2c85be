-- What is left of the set rule when its first cases don't hold.
use Rattle.std.specs.Prelude.{ℕ, drop}
use Rattle.var_types.specs.declared.decision.Decision.{Decision}
use Rattle.var_types.specs.Reading.{Reading}
use Rattle.var_types.specs.Set.{cases, change_of, first_of}
use Rattle.var_types.specs.State.{State}

-- what a set comes to by the cases of the rule behind the first n
abbrev pub rest : ℕ → State → Reading → Decision
rest n state set = first_of (change_of set) (drop n (cases state set))
