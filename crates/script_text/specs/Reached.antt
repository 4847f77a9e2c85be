use Rattle.std.specs.Prelude.{ℕ, zero, suc, List, [], ◌∷◌}
use Rattle.var_types.specs.declared.call.Call.{Call}

-- the calls of processors with this one among them; those that had none are there with none
abbrev pub reached : List (List Call) → ℕ → List (List Call)
reached [] zero = [] ∷ []
reached [] (suc processor) = [] ∷ reached [] processor
reached (calls ∷ rest) zero = calls ∷ rest
reached (calls ∷ rest) (suc processor) = calls ∷ reached rest processor
