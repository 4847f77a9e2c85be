-- The units of bytes are the numbers that they are two by two.
use Rattle.std.proofs.Common.{◌≡◌, ℕ, zero, suc, ◌+◌, ◌*◌, ◌/◌, List, [], ◌∷◌, length, map, refl, ap, ◌∙◌, arith}
use Rattle.std.specs.Int.{from_le_bytes, w16}
use Rattle.std.specs.Simd.{first_chunks}
use Rattle.var_types.specs.Live.{units_in}

-- the units of bytes are the numbers of two bytes each
pub units_of_pairs : (n : ℕ) (bs : List ℕ) → n ≡ length bs / 2 → map (from_le_bytes w16) (first_chunks 2 n bs) ≡ units_in bs
units_of_pairs zero [] h = refl
units_of_pairs zero (a ∷ []) h = refl
units_of_pairs zero (a ∷ b ∷ rest) h = absurd (omega arith)
units_of_pairs (suc n) [] h = absurd (omega arith)
units_of_pairs (suc n) (a ∷ []) h = absurd (omega arith)
units_of_pairs (suc n) (a ∷ b ∷ rest) h =
    let unit : from_le_bytes w16 (a ∷ b ∷ []) ≡ a + 256 * b = omega arith in
    ap (λ u. u ∷ map (from_le_bytes w16) (first_chunks 2 n rest)) unit ∙ ap (λ us. (a + 256 * b) ∷ us) (units_of_pairs n rest (omega arith))
