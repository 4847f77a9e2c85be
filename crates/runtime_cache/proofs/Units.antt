-- Units put into a buffer, one after the other.
use Rattle.std.proofs.Common.{◌≡◌, ℕ, zero, suc, ◌+◌, ◌/◌, ◌≤◌, ◌<◌, List, [], ◌∷◌, ◌++◌, length, map, take, drop, refl, sym, ap, ◌∙◌, arith}
use Rattle.std.specs.Int.{from_le_bytes, w16}
use Rattle.std.proofs.Math.Seq.{take-length}
use Rattle.std.proofs.lemmas.List.{length-map}
use Rattle.std.specs.List.{slice_index_or, slice_set}
use Rattle.std.specs.Simd.{first_chunks}
use Rattle.var_types.proofs.PairedUnits.{units_of_pairs}
use Rattle.var_types.specs.Answers.{at_front}
use Rattle.var_types.specs.Live.{units_in}

-- one number more behind those that were put
put_behind : {X : Type 0} (f : X → ℕ) (i : ℕ) (xs : List X) (d : X) (old : List ℕ) → i < length xs → length xs ≤ length old
    → slice_set (map f (take i xs) ++ drop i old) i (f (slice_index_or xs i d)) ≡ map f (take (suc i) xs) ++ drop (suc i) old
put_behind f i [] d old h fits = absurd (omega arith)
put_behind f i (x ∷ xs) d [] h fits = absurd (omega arith)
put_behind f zero (x ∷ xs) d (o ∷ os) h fits = refl
put_behind f (suc i) (x ∷ xs) d (o ∷ os) h fits =
    let within : i < length xs = omega arith in
    let rest : length xs ≤ length os = omega arith in
    ap (λ zs. f x ∷ zs) (put_behind f i xs d os within rest)

-- the same, where the next index is one more
pub put_next : {X : Type 0} (f : X → ℕ) (i : ℕ) (xs : List X) (d : X) (old : List ℕ) → i < length xs → length xs ≤ length old
    → slice_set (map f (take i xs) ++ drop i old) i (f (slice_index_or xs i d)) ≡ map f (take (i + 1) xs) ++ drop (i + 1) old
put_next f i xs d old h fits =
    let next : suc i ≡ i + 1 = omega arith in
    put_behind f i xs d old h fits ∙ ap (λ (n : ℕ). map f (take n xs) ++ drop n old) next

-- the units of bytes in front of a buffer, once all pairs of bytes were put
pub put_all : (bytes : List ℕ) (pairs : List (List ℕ)) (old : List ℕ) (i : ℕ) → pairs ≡ first_chunks 2 (length bytes / 2) bytes
    → length pairs ≡ i → map (from_le_bytes w16) (take i pairs) ++ drop i old ≡ at_front (units_in bytes) old
put_all bytes pairs old i are all =
    let units : map (from_le_bytes w16) pairs ≡ units_in bytes =
    ap (map (from_le_bytes w16)) are ∙ units_of_pairs (length bytes / 2) bytes refl in
    let many : i ≡ length (units_in bytes) = sym all ∙ sym (length-map pairs (from_le_bytes w16)) ∙ ap (λ (us : List ℕ). length us) units in
    ap (λ (ps : List (List ℕ)). map (from_le_bytes w16) ps ++ drop i old) (ap (λ (n : ℕ). take n pairs) (sym all) ∙ take-length pairs)
    ∙ (λ j. units j ++ drop (many j) old)
