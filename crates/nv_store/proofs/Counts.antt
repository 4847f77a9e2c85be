-- How many elements of a list pass a test.
use Rattle.std.proofs.Common.{◌≡◌, ◌+◌, ◌≤◌, Bool, true, false, cond, ◌||◌, List, [], ◌∷◌, ◌++◌, refl, ap, ◌∙◌, arith, count_by}
use Rattle.std.proofs.lemmas.List.Sums.{sum_by-append, sum_by-cons}
use Rattle.std.specs.List.{list_any}

module _ {X : Type 0} (p : X → Bool) where
  -- the first, and those behind it
  pub count-cons : (x : X) (xs : List X) → count_by p (x ∷ xs) ≡ cond (p x) 1 0 + count_by p xs
  count-cons x xs = sum_by-cons (λ x. cond (p x) 1 0) x xs

  pub count-append : (xs ys : List X) → count_by p (xs ++ ys) ≡ count_by p xs + count_by p ys
  count-append xs ys = sum_by-append (λ x. cond (p x) 1 0) xs ys

  -- one among others
  pub count-among : (xs : List X) (x : X) (ys : List X) → count_by p (xs ++ x ∷ ys) ≡ cond (p x) 1 0 + count_by p (xs ++ ys)
  count-among xs x ys = omega (arith, count-append xs (x ∷ ys), count-cons x ys, count-append xs ys)

  -- without it there are no more
  pub count-fewer : (xs : List X) (x : X) (ys : List X) → count_by p (xs ++ ys) ≤ count_by p (xs ++ x ∷ ys)
  count-fewer xs x ys = let e = count-among xs x ys in omega arith

  -- none is counted where none passes
  pub count_none : (xs : List X) → list_any p xs ≡ false → count_by p xs ≡ 0
  count_none [] h = refl
  count_none (x ∷ xs) h = by (p x) refl h (count_none xs)
    where
      by : (b : Bool) → p x ≡ b → (b || list_any p xs) ≡ false → (list_any p xs ≡ false → count_by p xs ≡ 0) → count_by p (x ∷ xs) ≡ 0
      by true e h rest = cc
      by false e h rest = count-cons x xs ∙ ap (λ b. cond b 1 0 + count_by p xs) e ∙ omega (arith, rest h)

  -- none passes where none is counted
  pub none_counted : (xs : List X) → count_by p xs ≡ 0 → list_any p xs ≡ false
  none_counted [] h = refl
  none_counted (x ∷ xs) h = by (p x) refl (none_counted xs)
    where
      by : (b : Bool) → p x ≡ b → (count_by p xs ≡ 0 → list_any p xs ≡ false) → (b || list_any p xs) ≡ false
      by true e rest =
          let one : count_by p (x ∷ xs) ≡ 1 + count_by p xs = count-cons x xs ∙ ap (λ b. cond b 1 0 + count_by p xs) e in
          absurd (omega (arith, one))
      by false e rest =
          let same : count_by p (x ∷ xs) ≡ 0 + count_by p xs = count-cons x xs ∙ ap (λ b. cond b 1 0 + count_by p xs) e in
          rest (omega (arith, same))

  -- one is counted where one passes
  pub count_some : (xs : List X) → list_any p xs ≡ true → 1 ≤ count_by p xs
  count_some [] h = cc
  count_some (x ∷ xs) h = by (p x) refl h (count_some xs)
    where
      by : (b : Bool) → p x ≡ b → (b || list_any p xs) ≡ true → (list_any p xs ≡ true → 1 ≤ count_by p xs) → 1 ≤ count_by p (x ∷ xs)
      by true e h rest =
          let one : count_by p (x ∷ xs) ≡ 1 + count_by p xs = count-cons x xs ∙ ap (λ b. cond b 1 0 + count_by p xs) e in
          omega (arith, one)
      by false e h rest =
          let same : count_by p (x ∷ xs) ≡ 0 + count_by p xs = count-cons x xs ∙ ap (λ b. cond b 1 0 + count_by p xs) e in
          omega (arith, same, rest h)

  -- one passes where one is counted
  pub some_counted : (xs : List X) → 1 ≤ count_by p xs → list_any p xs ≡ true
  some_counted xs h = by (list_any p xs) refl
    where
      by : (b : Bool) → list_any p xs ≡ b → b ≡ true
      by true e = refl
      by false e = let none = count_none xs e in absurd (omega arith)
