-- Pieces of a new record that are programmed over erased bytes.
use Rattle.std.proofs.Common.{◌≡◌, ℕ, zero, suc, ◌+◌, ◌≤◌, ◌<◌, true, List, [], ◌∷◌, length, take, drop, get_or, Option, IfSome, refl, sym, ap, subst, ◌∙◌, arith, length-drop}
use Rattle.std.proofs.lemmas.List.{get_or-drop, take_at}
use Rattle.flash_dev.specs.Rules.{AreBytesLeft, IsByteLeft, IsProgramLeft, Leaves, programmed}
use Rattle.ftw_spare.proofs.Filling.{are_bytes}
use Rattle.ftw_work.proofs.Steps.{program_outside}
use Rattle.var_types.proofs.Placed.{here_placed}
use Rattle.var_types.specs.Placed.{IsOutsideKept, placed}
use Rattle.var_types.specs.Record.{is_clean}
use Rattle.var_header.specs.declared.header.Header.{Header}
use Rattle.var_header.specs.Header.{header_bytes}
use Rattle.var_region.proofs.Tails.{erased_from}
use Rattle.nv_store.specs.Mirror.{IsMirrored}
use Rattle.nv_store.specs.StepsLeft.{IsHeaderTorn}
use Rattle.nv_store.proofs.Programs.{fresh_programmed}
use Rattle.nv_store.proofs.Stepping.{programmed_told}

-- each byte that is left, by the two
left_at : (k : ℕ) (olds news lefts : List ℕ) → AreBytesLeft olds news lefts → k < length news → k < length olds
    → IsByteLeft (get_or olds k 0) (get_or news k 0) (get_or lefts k 0)
left_at k olds [] lefts is h g = absurd (omega arith)
left_at k [] (new ∷ news) lefts is h g = absurd (omega arith)
left_at k (old ∷ olds) (new ∷ news) [] is h g = absurd is
left_at zero (old ∷ olds) (new ∷ news) (left ∷ lefts) is h g = is.0
left_at (suc k) (old ∷ olds) (new ∷ news) (left ∷ lefts) is h g = left_at k olds news lefts is.1 (omega arith) (omega arith)

-- an erased byte over which the erased one is programmed stays erased
erased_byte : (y : ℕ) → IsByteLeft 255 255 y → y ≡ 255
erased_byte y is = sym is.none_set ∙ is.rest_kept

-- the third byte of a header is its State
pub state_byte_of : (h : Header) → get_or (header_bytes h) 2 0 ≡ h.state
unfolding header_bytes
state_byte_of h = refl

-- bytes in which a header was programmed in part
pub torn_header : (at : ℕ) (piece old left : List ℕ) → is_clean old at ≡ true → length piece ≡ 60 → at + 60 ≤ length old → get_or piece 2 0 ≡ 255
    → IsProgramLeft at piece old left → IsHeaderTorn at old left
torn_header at piece old left clean size room erased is = record {
  outside = subst (λ n. IsOutsideKept at (at + n) old left) size (program_outside at piece old left is);
  state =
      let one = left_at 2 (drop at old) piece (drop at left) is.range (omega (arith, size)) (omega (arith, length-drop at old)) in
      let was : get_or (drop at old) 2 0 ≡ 255 = get_or-drop at old 2 0 ∙ erased_from old at clean (at + 2) (omega arith) (omega arith) in
      sym (get_or-drop at left 2 0)
      ∙ erased_byte (get_or (drop at left) 2 0)
      (subst (λ x. IsByteLeft x 255 (get_or (drop at left) 2 0)) was (subst (λ y. IsByteLeft (get_or (drop at old) 2 0) y (get_or (drop at left) 2 0)) erased one));
}

-- a piece that was written among others
module _ (at n : ℕ) (piece old bytes : List ℕ) (is : bytes ≡ placed at piece old) (size : n ≡ length piece) (room : at + length piece ≤ length old) where
  pub piece_is : take n (drop at bytes) ≡ piece
  piece_is =
      ap (λ l. take n (drop at l)) is
      ∙ ap (take n) (here_placed at piece old room)
      ∙ take_at piece (drop (at + length piece) old) n (sym size)

  pub piece_size : length (take n (drop at bytes)) ≡ length piece
  piece_size = ap length piece_is

  -- what is told after it was programmed over erased bytes
  pub piece_told : (old_told new_told : Option (List ℕ)) → 100 ≤ at → at + length piece ≤ 57344 → ((k : ℕ) → get_or (take n (drop at bytes)) k 0 < 256) → is_clean old at ≡ true
      → IfSome old_told (λ image. length image ≡ 131072) → IfSome old_told (IsMirrored old) → Leaves (IsProgramLeft at (take n (drop at bytes))) old_told new_told
      → Leaves (λ image left. left ≡ programmed at (take n (drop at bytes)) image) old_told new_told → IfSome new_told (IsMirrored bytes)
  piece_told old_told new_told low high small clean sized mirrored run done =
      let len = piece_size in
      programmed_told at (take n (drop at bytes)) old bytes old_told new_told low (omega arith) sized mirrored
      (fresh_programmed at (take n (drop at bytes)) old clean (omega arith) (are_bytes (take n (drop at bytes)) small) ∙ ap (λ p. placed at p old) piece_is ∙ sym is)
      run done
