-- Bytes that are written among others, piece by piece.
use Rattle.std.proofs.Common.{◌≡◌, ℕ, ◌+◌, ◌≤◌, List, [], ◌++◌, length, take, drop, refl, sym, ap, ◌∙◌, arith, append_assoc, length-append, length-drop}
use Rattle.std.proofs.lemmas.List.{drop-drop, drop_at, length-take-le, take-append-drop, take_at}
use Rattle.var_types.specs.Placed.{placed}

module _ (at : ℕ) (xs old : List ℕ) (room : at + length xs ≤ length old) where
  -- how many bytes are before the place
  pub length_before : length (take at old) ≡ at
  length_before = length-take-le at old (omega arith)

  -- there are as many bytes as before
  pub length-placed : length (placed at xs old) ≡ length old
  unfolding placed
  length-placed =
      omega (arith, length-append (take at old) (xs ++ drop (at + length xs) old), length-append xs (drop (at + length xs) old), length-drop (at + length xs) old, length_before)

  -- what stands before the place stays
  pub before_placed : take at (placed at xs old) ≡ take at old
  unfolding placed
  before_placed = take_at (take at old) (xs ++ drop (at + length xs) old) at length_before

  -- from the place on stand the bytes written, and what was behind them
  pub here_placed : drop at (placed at xs old) ≡ xs ++ drop (at + length xs) old
  unfolding placed
  here_placed = drop_at (take at old) (xs ++ drop (at + length xs) old) at length_before

  -- what stands behind the bytes written stays
  pub behind_placed : drop (at + length xs) (placed at xs old) ≡ drop (at + length xs) old
  behind_placed =
      sym (drop-drop (length xs) at (placed at xs old))
      ∙ ap (drop (length xs)) here_placed
      ∙ drop_at xs (drop (at + length xs) old) (length xs) refl

  -- up to their end stand what was before the place, and the bytes written
  pub front_placed : take (at + length xs) (placed at xs old) ≡ take at old ++ xs
  unfolding placed
  front_placed =
      ap (take (at + length xs)) (sym (append_assoc (take at old) xs (drop (at + length xs) old)))
      ∙ take_at (take at old ++ xs) (drop (at + length xs) old) (at + length xs) (omega (arith, length-append (take at old) xs, length_before))

-- nothing written leaves all
pub placed_none : (at : ℕ) (old : List ℕ) → placed at [] old ≡ old
unfolding placed
placed_none at old = ap (λ n. take at old ++ drop n old) (omega arith) ∙ take-append-drop at old

-- two pieces, one behind the other, are one
pub placed_more : (at next : ℕ) (xs ys old : List ℕ) → at + length xs ≡ next → next + length ys ≤ length old
    → placed next ys (placed at xs old) ≡ placed at (xs ++ ys) old
unfolding placed
placed_more at next xs ys old is room =
    let within : at + length xs ≤ length old = omega arith in
    let far : at + length (xs ++ ys) ≡ next + length ys = omega (arith, length-append xs ys) in
    let behind : drop (next + length ys) (placed at xs old) ≡ drop (at + length (xs ++ ys)) old =
    sym (drop-drop (length ys) next (placed at xs old))
    ∙ ap (λ n. drop (length ys) (drop n (placed at xs old))) (sym is)
    ∙ ap (drop (length ys)) (behind_placed at xs old within)
    ∙ drop-drop (length ys) (at + length xs) old
    ∙ ap (λ n. drop n old) (omega arith) in
    let front : take next (placed at xs old) ≡ take at old ++ xs = ap (λ n. take n (placed at xs old)) (sym is) ∙ front_placed at xs old within in
    ap (λ all. all ++ (ys ++ drop (next + length ys) (placed at xs old))) front
    ∙ ap (λ rest. (take at old ++ xs) ++ (ys ++ rest)) behind
    ∙ append_assoc (take at old) xs (ys ++ drop (at + length (xs ++ ys)) old)
    ∙ ap (λ rest. take at old ++ rest) (sym (append_assoc xs ys (drop (at + length (xs ++ ys)) old)))
