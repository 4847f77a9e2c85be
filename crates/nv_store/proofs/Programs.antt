-- Bytes that are programmed into a volume, of which an interruption leaves some bits.
use Rattle.std.proofs.Common.{◌≡◌, inl, inr, ⊎_elim, ℕ, zero, suc, ◌+◌, ◌-◌, ◌≤◌, ◌<◌, true, List, [], ◌∷◌, ◌++◌, length, take, drop, get_or, set, replicate, nat_lt, bit_and, refl, sym, ap, subst, ◌∙◌, arith, length-drop, add-one}
use Rattle.std.specs.List.{list_all}
use Rattle.std.proofs.lemmas.List.{drop-drop, drop-take, drop_at, drop_more, length-take-le, length-replicate, replicate-append-replicate, set-get_or, set_split, take-append-drop, take-take, take_at}
use Rattle.flash_dev.specs.Rules.{AreBytesLeft, IsByteLeft, IsProgramLeft, cleared, programmed}
use Rattle.flash_dev.proofs.Fresh.{fresh_front}
use Rattle.ftw_work.proofs.Steps.{program_outside}
use Rattle.var_types.specs.Kept.{volume}
use Rattle.var_types.specs.Placed.{IsOutsideKept, placed}
use Rattle.var_types.specs.Record.{is_clean}
use Rattle.var_types.proofs.Parts.{outside_wider}
use Rattle.var_types.proofs.WorkAreas.{blank_replicate}
use Rattle.var_region.specs.StateSteps.{IsOneBit}
use Rattle.nv_store.specs.StepsLeft.{IsEither}

-- what is left within the first bytes
left_front : (m : ℕ) (olds news lefts : List ℕ) → length news ≤ m → AreBytesLeft olds news lefts → AreBytesLeft (take m olds) news (take m lefts)
left_front m olds [] lefts h is = ap (take m) is
left_front m [] (new ∷ news) lefts h is = by m
  where
    by : (m : ℕ) → AreBytesLeft (take m []) (new ∷ news) (take m lefts)
    by m = subst (λ (l : List ℕ). AreBytesLeft (take m []) (new ∷ news) (take m l)) (sym is) (none m)
      where
        none : (m : ℕ) → AreBytesLeft (take m []) (new ∷ news) (take m [])
        none zero = refl
        none (suc m) = refl
left_front zero (old ∷ olds) (new ∷ news) lefts h is = absurd (omega arith)
left_front (suc m) (old ∷ olds) (new ∷ news) [] h is = absurd is
left_front (suc m) (old ∷ olds) (new ∷ news) (left ∷ lefts) h is = (is.0, left_front m olds news lefts (omega arith) is.1)

-- what is cleared within the first bytes
cleared_front : (m : ℕ) (olds news : List ℕ) → length news ≤ m → take m (cleared olds news) ≡ cleared (take m olds) news
cleared_front m [] [] h = none m
  where
    none : (m : ℕ) → take m [] ≡ cleared (take m []) []
    none zero = refl
    none (suc m) = refl
cleared_front m (old ∷ olds) [] h = by m
  where
    by : (m : ℕ) → take m (old ∷ olds) ≡ cleared (take m (old ∷ olds)) []
    by zero = refl
    by (suc m) = refl
cleared_front m [] (new ∷ news) h = none m
  where
    none : (m : ℕ) → take m [] ≡ cleared (take m []) (new ∷ news)
    none zero = refl
    none (suc m) = refl
cleared_front zero (old ∷ olds) (new ∷ news) h = absurd (omega arith)
cleared_front (suc m) (old ∷ olds) (new ∷ news) h = ap (λ rest. bit_and old new ∷ rest) (cleared_front m olds news (omega arith))

module _ (at : ℕ) (piece : List ℕ) (low : 100 ≤ at) (high : at + length piece ≤ 57344) where
  -- nothing but records changes
  pub step_outside : (image left : List ℕ) → IsProgramLeft at piece image left → IsOutsideKept 100 57344 image left
  step_outside image left is = outside_wider at (at + length piece) 100 57344 image left low high (program_outside at piece image left is)

  -- the volume's bytes from the offset on
  behind : (image : List ℕ) → drop at (take 57344 image) ≡ take (57344 - at) (drop at image)
  behind image = let n : at + (57344 - at) ≡ 57344 = omega arith in ap (λ m. drop at (take m image)) (sym n) ∙ drop-take at (57344 - at) image

  -- the volume is left so too
  pub volume_program : (image left : List ℕ) → IsProgramLeft at piece image left → IsProgramLeft at piece (volume image) (volume left)
  unfolding volume
  volume_program image left is = record {
    before =
        take-take at 57344 left (omega arith)
        ∙ is.before
        ∙ sym (take-take at 57344 image (omega arith));
    range =
        subst (λ olds. AreBytesLeft olds piece (drop at (take 57344 left))) (sym (behind image))
        (subst (λ lefts. AreBytesLeft (take (57344 - at) (drop at image)) piece lefts) (sym (behind left))
        (left_front (57344 - at) (drop at image) piece (drop at left) (omega arith) is.range));
  }

  -- it is programmed so too
  pub volume_programmed : (image : List ℕ) → length image ≡ 131072 → volume (programmed at piece image) ≡ programmed at piece (volume image)
  unfolding volume
  volume_programmed image size =
      let early : length (take at image) ≡ at = length-take-le at image (omega arith) in
      let n : at + (57344 - at) ≡ 57344 = omega arith in
      let all = programmed at piece image in
      sym (take-append-drop at (take 57344 all))
      ∙ (λ i. front i ++ rest early i)
    where
      all : List ℕ
      all = programmed at piece image

      front : take at (take 57344 all) ≡ take at (take 57344 image)
      front =
          take-take at 57344 all (omega arith)
          ∙ take_at (take at image) (cleared (drop at image) piece) at (length-take-le at image (omega arith))
          ∙ sym (take-take at 57344 image (omega arith))

      rest : length (take at image) ≡ at → drop at (take 57344 all) ≡ cleared (drop at (take 57344 image)) piece
      rest early =
          behind all
          ∙ ap (take (57344 - at)) (drop_at (take at image) (cleared (drop at image) piece) at early)
          ∙ cleared_front (57344 - at) (drop at image) piece (omega arith)
          ∙ ap (λ olds. cleared olds piece) (sym (behind image))

-- one byte that is programmed in one bit is left as it was, or as it is to be
one_byte : (x new : ℕ) (rest lefts : List ℕ) → AreBytesLeft (x ∷ rest) (new ∷ []) lefts → (y : ℕ) × (IsByteLeft x new y × (lefts ≡ y ∷ rest))
one_byte x new rest [] is = absurd is
one_byte x new rest (y ∷ lefts) is = (y, (is.0, ap (λ list. y ∷ list) is.1))

-- a byte as what stands before it, and what behind it
byte_split : (at : ℕ) (bytes : List ℕ) (y : ℕ) → at < length bytes → take at bytes ++ y ∷ drop (at + 1) bytes ≡ set bytes at y
byte_split at bytes y within = ap (λ n. take at bytes ++ y ∷ drop n bytes) (add-one at) ∙ sym (set_split bytes at y within)

module _ (at old new : ℕ) (bytes : List ℕ) (within : at < length bytes) (byte : get_or bytes at 0 ≡ old) (bit : IsOneBit old new) where
  here : drop at bytes ≡ old ∷ drop (at + 1) bytes
  here = drop_more bytes at 0 within ∙ ap (λ y. y ∷ drop (at + 1) bytes) byte

  same : set bytes at old ≡ bytes
  same = ap (set bytes at) (sym byte) ∙ set-get_or bytes at 0

  pub turned_left : (left : List ℕ) → IsProgramLeft at (new ∷ []) bytes left → IsEither bytes (set bytes at new) left
  turned_left left is =
      let one = one_byte old new (drop (at + 1) bytes) (drop at left) (subst (λ olds. AreBytesLeft olds (new ∷ []) (drop at left)) here is.range) in
      let whole : left ≡ set bytes at one.0 =
      sym (take-append-drop at left) ∙ (λ i. is.before i ++ one.1.1 i) ∙ byte_split at bytes one.0 within in
      let rest : bit_and one.0 new ≡ new = ap (bit_and one.0) (sym bit.clears) ∙ one.1.0.rest_kept ∙ bit.clears in
      ⊎_elim (λ e. inl (whole ∙ ap (set bytes at) e ∙ same)) (λ e. inr (whole ∙ ap (set bytes at) e)) (bit.alone one.0 one.1.0.none_set rest)

  pub turned_programmed : programmed at (new ∷ []) bytes ≡ set bytes at new
  turned_programmed =
      ap (λ olds. take at bytes ++ cleared olds (new ∷ [])) here
      ∙ ap (λ y. take at bytes ++ y ∷ drop (at + 1) bytes) bit.clears
      ∙ byte_split at bytes new within

-- bytes that are programmed over erased ones stand there
pub fresh_programmed : (at : ℕ) (piece old : List ℕ) → is_clean old at ≡ true → at + length piece ≤ length old → list_all (λ b. nat_lt b 256) piece ≡ true
    → programmed at piece old ≡ placed at piece old
unfolding placed
fresh_programmed at piece old clean room small =
    let n = length (drop at old) in
    let m = n - length piece in
    let size : length piece + m ≡ n = omega (arith, length-drop at old) in
    let erased : drop at old ≡ replicate (length piece) 255 ++ replicate m 255 =
    blank_replicate (drop at old) clean ∙ ap (λ k. replicate k 255) (sym size) ∙ sym (replicate-append-replicate (length piece) m 255) in
    let rest : replicate m 255 ≡ drop (at + length piece) old =
    sym (drop_at (replicate (length piece) 255) (replicate m 255) (length piece) (length-replicate {A = ℕ} (length piece) 255))
    ∙ ap (drop (length piece)) (sym erased)
    ∙ drop-drop (length piece) at old in
    ap (λ olds. take at old ++ cleared olds piece) erased
    ∙ ap (λ list. take at old ++ list) (fresh_front piece (replicate m 255) small)
    ∙ ap (λ list. take at old ++ (piece ++ list)) rest
