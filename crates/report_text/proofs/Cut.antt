use Rattle.std.proofs.Common.{◌≡◌, ℕ, Bool, true, false, List, [], ◌∷◌, ◌++◌, refl, sym, ap, ◌∙◌}
use Rattle.std.proofs.lemmas.Bool.{and_parts, true≢false}
use Rattle.std.specs.List.{list_all}

-- a byte that parts isn't one of those that it parts
apart : (p : ℕ → Bool) (c y : ℕ) (xs : List ℕ) → p c ≡ false → list_all p (y ∷ xs) ≡ true → c ≡ y → ⊥
apart p c y xs h k e =
    let yes : p y ≡ true = (and_parts (p y) (list_all p xs) k).0 in
    true≢false (sym yes ∙ ap p (sym e) ∙ h)

-- texts that go on behind a byte that parts are equal where all is
pub cut : (p : ℕ → Bool) (c : ℕ) (xs ys us vs : List ℕ) → p c ≡ false → list_all p xs ≡ true → list_all p ys ≡ true
    → xs ++ c ∷ us ≡ ys ++ c ∷ vs → (xs ≡ ys) × (us ≡ vs)
cut p c [] [] us vs h k l e = (refl, cc)
cut p c [] (y ∷ ys) us vs h k l e = absurd (apart p c y ys h l (cc))
cut p c (x ∷ xs) [] us vs h k l e = absurd (apart p c x xs h k (cc))
cut p c (x ∷ xs) (y ∷ ys) us vs h k l e =
    let rest = cut p c xs ys us vs h (and_parts (p x) (list_all p xs) k).1 (and_parts (p y) (list_all p ys) l).1 (cc) in
    let first : x ≡ y = cc in
    let same : xs ≡ ys = rest.0 in
    (cc, rest.1)

-- a text without the byte that parts isn't one with it
pub uncut : (p : ℕ → Bool) (c : ℕ) (xs ys vs : List ℕ) → p c ≡ false → list_all p xs ≡ true → xs ≡ ys ++ c ∷ vs → ⊥
uncut p c [] [] vs h k e = cc
uncut p c [] (y ∷ ys) vs h k e = cc
uncut p c (x ∷ xs) [] vs h k e = apart p c x xs h k (cc)
uncut p c (x ∷ xs) (y ∷ ys) vs h k e = uncut p c xs ys vs h (and_parts (p x) (list_all p xs) k).1 (cc)
