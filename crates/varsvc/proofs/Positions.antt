use Rattle.std.proofs.Common.{◌≡◌, ◌+◌, Bool, cond, not, List, [], ◌∷◌, map, length, nat_lt, refl, ap, ◌∙◌, Some, None}
use Rattle.std.proofs.lemmas.List.{length-map}
use Rattle.std.specs.List.{prefix_len, position}

-- how many elements pass from the front on, where a function was applied to each
pub prefix_len-map : {A B : Type 0} (p : B → Bool) (f : A → B) (xs : List A) → prefix_len p (map f xs) ≡ prefix_len (λ x. p (f x)) xs
prefix_len-map p f [] = refl
prefix_len-map p f (x ∷ xs) = ap (λ n. cond (p (f x)) (1 + n) 0) (prefix_len-map p f xs)

-- the first element that passes, where a function was applied to each
pub position-map : {A B : Type 0} (p : B → Bool) (f : A → B) (xs : List A) → position p (map f xs) ≡ position (λ x. p (f x)) xs
position-map p f xs =
    ap (λ n. cond (nat_lt (prefix_len (λ x. not (p x)) (map f xs)) n) (Some (prefix_len (λ x. not (p x)) (map f xs))) None) (length-map xs f)
    ∙ ap (λ n. cond (nat_lt n (length xs)) (Some n) None) (prefix_len-map (λ x. not (p x)) f xs)
