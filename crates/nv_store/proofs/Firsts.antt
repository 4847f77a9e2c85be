-- The first element of a list that passes a test.
use Rattle.std.proofs.Common.{◌≡◌, Bool, true, false, cond, ◌||◌, List, [], ◌∷◌, ◌++◌, find, Some, None, refl, sym, ap, subst, ◌∙◌}
use Rattle.std.specs.List.{AllByRecursion, list_any}

-- an element is the first of a list that passes a test
pub record IsFirst {X : Type 0} (p : X → Bool) (xs : List X) (x : X) : Type 0 where
  pub before : List X
  pub after : List X
  pub split : xs ≡ before ++ x ∷ after
  pub passes : p x ≡ true
  pub none : list_any p before ≡ false

module _ {X : Type 0} (p : X → Bool) where
  -- what is found is the first
  pub first_found : (xs : List X) (x : X) → find p xs ≡ Some x → IsFirst p xs x
  first_found [] x e = cc
  first_found (y ∷ xs) x e = by (p y) refl e (first_found xs x)
    where
      by : (b : Bool) → p y ≡ b → cond b (Some y) (find p xs) ≡ Some x → (find p xs ≡ Some x → IsFirst p xs x) → IsFirst p (y ∷ xs) x
      by true t e rest =
          let is : y ≡ x = cc in
          record { before = []; after = xs; split = ap (λ z. z ∷ xs) is; passes = ap p (sym is) ∙ t; none = refl }
      by false t e rest =
          let w = rest e in
          record {
            before = y ∷ w.before;
            after = w.after;
            split = ap (λ zs. y ∷ zs) w.split;
            passes = w.passes;
            none = ap (λ b. b || list_any p w.before) t ∙ w.none;
          }

  -- where none is found none passes
  pub none_found : (xs : List X) → find p xs ≡ None → list_any p xs ≡ false
  none_found [] e = refl
  none_found (y ∷ xs) e = by (p y) refl e (none_found xs)
    where
      by : (b : Bool) → p y ≡ b → cond b (Some y) (find p xs) ≡ None → (find p xs ≡ None → list_any p xs ≡ false) → (b || list_any p xs) ≡ false
      by true t e rest = cc
      by false t e rest = rest e

  -- what holds of each holds of the first
  pub each_found : (P : X → Type 0) (xs : List X) → AllByRecursion P xs → (x : X) → find p xs ≡ Some x → P x
  each_found P [] all x e = cc
  each_found P (y ∷ xs) all x e = by (p y) e (each_found P xs all.1 x)
    where
      by : (b : Bool) → cond b (Some y) (find p xs) ≡ Some x → (find p xs ≡ Some x → P x) → P x
      by true e rest = let is : y ≡ x = cc in subst P is all.0
      by false e rest = rest e
