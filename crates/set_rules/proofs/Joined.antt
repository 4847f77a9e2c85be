-- When bytes are equal to longer ones.
use Rattle.std.proofs.Common.{◌≡◌, List, [], ◌∷◌, ◌++◌, length, refl, sym, ap, ◌∙◌}
use Rattle.std.proofs.lemmas.Bool.{eq-eqb, ne_eqb}
use Rattle.std.specs.Prelude.{ℕ, ◌==◌, ◌&&◌}
use lib.Pointwise.{pointwise}

-- bytes are equal to the same with others behind them exactly where there are no others
pub same_longer : (xs ys : List ℕ) → pointwise ◌==◌ xs (xs ++ ys) ≡ (length ys == 0)
same_longer [] [] = refl
same_longer [] (y ∷ ys) = sym (ne_eqb (length (y ∷ ys)) 0 (λ e. cc))
same_longer (x ∷ xs) ys = ap (λ b. b && pointwise ◌==◌ xs (xs ++ ys)) (eq-eqb x x refl) ∙ same_longer xs ys
