-- Names as bytes.
use Rattle.std.proofs.Common.{ℕ, zero, suc, ◌*◌, ◌≤◌, List, [], ◌∷◌, length, arith}
use Rattle.var_types.specs.Live.{units_in}

-- there are no more units than pairs of bytes
pub few_units : (n : ℕ) (bytes : List ℕ) → length bytes ≤ 2 * n → length (units_in bytes) ≤ n
few_units n [] h = omega arith
few_units n (low ∷ []) h = omega arith
few_units zero (low ∷ high ∷ rest) h = absurd (omega (arith, h))
few_units (suc n) (low ∷ high ∷ rest) h = let less = few_units n rest (omega (arith, h)) in omega (arith, less)

-- those of a name of a call
pub name_units : (bytes : List ℕ) → length bytes ≤ 2048 → length (units_in bytes) ≤ 1024
name_units bytes h = few_units 1024 bytes h
