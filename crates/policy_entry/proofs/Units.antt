-- Units of bytes, and the pairs of bytes that they are.
use Rattle.std.proofs.Common.{◌≡◌, ℕ, zero, suc, ◌+◌, ◌*◌, ◌/◌, ◌≤◌, Bool, cond, List, [], ◌∷◌, length, map, take, Some, None, refl, sym, ap, ◌∙◌, arith}
use Rattle.std.specs.List.{prefix_len}
use Rattle.std.specs.Prelude.{◌==◌, count_by, fold, nat_lt, not, position}
use Rattle.std.proofs.lemmas.List.{length-map}
use Rattle.std.proofs.lemmas.List.Sums.{count_by-le-length}
use Rattle.std.specs.Int.{from_le_bytes, w16}
use Rattle.std.specs.Simd.{first_chunks}
use Rattle.var_types.proofs.PairedUnits.{units_of_pairs}
use Rattle.var_types.specs.Live.{units_in}
use Rattle.var_types.specs.Policies.{is_wildcard}

-- how many elements pass before the first that doesn't, of a list and of what is made of it
prefix_len-map : {X Y : Type 0} (f : X → Y) (p : Y → Bool) (xs : List X) → prefix_len p (map f xs) ≡ prefix_len (λ x. p (f x)) xs
prefix_len-map f p [] = refl
prefix_len-map f p (x ∷ xs) = ap (λ (n : ℕ). cond (p (f x)) (1 + n) 0) (prefix_len-map f p xs)

-- the first place that passes
pub position-map : {X Y : Type 0} (f : X → Y) (p : Y → Bool) (xs : List X) → position p (map f xs) ≡ position (λ x. p (f x)) xs
position-map f p xs =
    ap (λ (n : ℕ). cond (nat_lt n (length (map f xs))) (Some n) None) (prefix_len-map f (λ y. not (p y)) xs)
    ∙ ap (λ (n : ℕ). cond (nat_lt (prefix_len (λ x. not (p (f x))) xs) n) (Some (prefix_len (λ x. not (p (f x))) xs)) None) (length-map xs f)

-- a fold over what is made of a list
fold-map : {X Y B : Type 0} (f : X → Y) (step : B → Y → B) (acc : B) (xs : List X) → fold step acc (map f xs) ≡ fold (λ b x. step b (f x)) acc xs
fold-map f step acc [] = refl
fold-map f step acc (x ∷ xs) = fold-map f step (step acc (f x)) xs

-- how many pass
pub count_by-map : {X Y : Type 0} (f : X → Y) (p : Y → Bool) (xs : List X) → count_by p (map f xs) ≡ count_by (λ x. p (f x)) xs
count_by-map f p xs = fold-map f (λ n y. n + cond (p y) 1 0) 0 xs

-- there is a unit for each two bytes
pub length-units_in : (bytes : List ℕ) → length (units_in bytes) ≡ length bytes / 2
length-units_in [] = refl
length-units_in (a ∷ []) = refl
length-units_in (a ∷ b ∷ rest) = let e = length-units_in rest in omega (arith, e)

-- the first units are those of the first bytes
units_in-taken : (n m : ℕ) (bytes : List ℕ) → m ≡ 2 * n → units_in (take m bytes) ≡ take n (units_in bytes)
units_in-taken zero zero bytes h = refl
units_in-taken zero (suc m) bytes h = absurd (omega (arith, h))
units_in-taken (suc n) zero bytes h = absurd (omega (arith, h))
units_in-taken (suc n) (suc zero) bytes h = absurd (omega (arith, h))
units_in-taken (suc n) (suc (suc m)) [] h = refl
units_in-taken (suc n) (suc (suc m)) (a ∷ []) h = refl
units_in-taken (suc n) (suc (suc m)) (a ∷ b ∷ rest) h = ap (λ us. (a + 256 * b) ∷ us) (units_in-taken n m rest (omega (arith, h)))

pub units_in-take : (n : ℕ) (bytes : List ℕ) → units_in (take (2 * n) bytes) ≡ take n (units_in bytes)
units_in-take n bytes = units_in-taken n (2 * n) bytes refl

-- the first NUL among the pairs of bytes is the first among their units
pub nul_of_pairs : (n : ℕ) (bs : List ℕ) → n ≡ length bs / 2
    → position (λ pair. from_le_bytes w16 pair == 0) (first_chunks 2 n bs) ≡ position (λ unit. unit == 0) (units_in bs)
nul_of_pairs n bs h =
    sym (position-map (from_le_bytes w16) (λ unit. unit == 0) (first_chunks 2 n bs)) ∙ ap (position (λ unit. unit == 0)) (units_of_pairs n bs h)

-- as many pairs of bytes are wildcards as units
pub wildcards_of_pairs : (n : ℕ) (bs : List ℕ) → n ≡ length bs / 2
    → count_by (λ pair. is_wildcard (from_le_bytes w16 pair)) (first_chunks 2 n bs) ≡ count_by is_wildcard (units_in bs)
wildcards_of_pairs n bs h =
    sym (count_by-map (from_le_bytes w16) is_wildcard (first_chunks 2 n bs)) ∙ ap (count_by is_wildcard) (units_of_pairs n bs h)

-- no more of them than there are units
pub few_wildcards : (units : List ℕ) → count_by is_wildcard units ≤ length units
few_wildcards units = count_by-le-length is_wildcard units
