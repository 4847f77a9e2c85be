-- An element of a list that was replaced, and the others.
use Rattle.std.proofs.Common.{◌≡◌, ◌≢◌, ℕ, zero, suc, ◌<◌, List, [], ◌∷◌, length, refl, sym, ap, subst, ⊎_elim}
use Rattle.std.proofs.lemmas.Bool.{cases_eq}
use Rattle.std.proofs.lemmas.Option.{slice_get_within}
use Rattle.std.specs.Prelude.{slice_get, slice_set, Some}

-- the replaced one
pub at_set : {X : Type 0} (xs : List X) (p : ℕ) (a x : X) → slice_get xs p ≡ Some a → slice_get (slice_set xs p x) p ≡ Some x
at_set [] p a x h = cc
at_set (y ∷ ys) zero a x h = refl
at_set (y ∷ ys) (suc p) a x h = at_set ys p a x h

-- each other one
pub else_at : {X : Type 0} (xs : List X) (p q : ℕ) (x b : X) → q ≢ p → slice_get (slice_set xs p x) q ≡ Some b → slice_get xs q ≡ Some b
else_at [] p q x b apart h = h
else_at (y ∷ ys) zero zero x b apart h = absurd (apart refl)
else_at (y ∷ ys) zero (suc q) x b apart h = h
else_at (y ∷ ys) (suc p) zero x b apart h = h
else_at (y ∷ ys) (suc p) (suc q) x b apart h = else_at ys p q x b (λ e. apart (ap (λ n. suc n) e)) h

-- what holds of the new one and of each other holds of all
pub each_set : {X : Type 0} (P : ℕ → X → Type 0) (xs : List X) (p : ℕ) (a x : X) → slice_get xs p ≡ Some a → P p x
    → ((q : ℕ) (b : X) → q ≢ p → slice_get xs q ≡ Some b → P q b)
    → (q : ℕ) (b : X) → slice_get (slice_set xs p x) q ≡ Some b → P q b
each_set P xs p a x get mine others q b h = ⊎_elim (λ (e : q ≡ p). same e) (λ (apart : q ≡ p → ⊥). others q b apart (else_at xs p q x b apart h)) (cases_eq q p)
  where
    same : q ≡ p → P q b
    same e =
        let there : slice_get (slice_set xs p x) q ≡ Some x = subst (λ (n : ℕ). slice_get (slice_set xs p x) n ≡ Some x) (sym e) (at_set xs p a x get) in
        let one : x ≡ b = cc in
        subst (P q) one (subst (λ (n : ℕ). P n x) (sym e) mine)

-- what is there is within
pub within_get : {X : Type 0} (xs : List X) (p : ℕ) (a : X) → slice_get xs p ≡ Some a → p < length xs
within_get xs p a h = slice_get_within xs p a h
