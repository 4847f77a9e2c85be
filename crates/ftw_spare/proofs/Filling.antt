-- What erasing blocks and programming a volume's bytes leave.
use Rattle.std.proofs.Common.{◌≡◌, ℕ, suc, ◌+◌, ◌-◌, ◌*◌, ◌<◌, ◌≤◌, true, false, List, [], ◌∷◌, ◌++◌, length, get_or, take, drop, replicate, nat_lt, Option, Some, None, IfSome, refl, sym, ap, ◌∙◌, subst, arith, length-append, length-drop, append-nil}
use Rattle.std.specs.List.{list_all}
use Rattle.std.proofs.lemmas.Bool.{and_from, lt-ltb}
use Rattle.std.proofs.lemmas.List.{append_assoc, drop-drop, drop_all, drop_at, length-replicate, length-take-le, replicate-append-replicate, take-append-drop, take_at}
use Rattle.flash_dev.specs.Moments.{Stays}
use Rattle.flash_dev.specs.Rules.{IsProgramLeft, Leaves, block_filled, cleared, filled, programmed}
use Rattle.flash_dev.proofs.Calls.{leaves_then, leaves_weaken, told_at}
use Rattle.flash_dev.proofs.Moments.{stays_weaken}
use Rattle.ftw_spare.specs.Spare.{IsCopied, IsSpareErased, IsSpareFilled}
use Rattle.ftw_work.proofs.Steps.{erased_takes, programmed_at}
use Rattle.var_types.specs.Kept.{IsContentKept, spare, volume, work_area}
use Rattle.var_types.specs.Placed.{IsOutsideKept}
use Rattle.var_types.specs.WorkArea.{IsClean, IsPending, is_blank, work_state}
use Rattle.var_types.proofs.Parts.{spare_changes, volume_changes}
use Rattle.var_types.proofs.WorkAreas.{blank_replicate, replicate_blank, slot_of_pending, slots_of_clean}

-- a part is filled, and then the next
filled_more : (at n m : ℕ) (image : List ℕ) → at ≤ length image → filled (at + n) m 255 (filled at n 255 image) ≡ filled at (n + m) 255 image
filled_more at n m image within =
    let front = take at image ++ replicate n 255 in
    let size : length front ≡ at + n =
    length-append (take at image) (replicate n 255) ∙ omega (arith, length-take-le at image within, length-replicate {A = ℕ} n 255) in
    let back : drop ((at + n) + m) (front ++ drop (at + n) image) ≡ drop (at + (n + m)) image =
    sym (drop-drop m (at + n) (front ++ drop (at + n) image)) ∙ ap (drop m) (drop_at front (drop (at + n) image) (at + n) size)
    ∙ drop-drop m (at + n) image ∙ ap (λ k. drop k image) (regroup at n m) in
    ap (λ list. list ++ replicate m 255 ++ drop ((at + n) + m) (front ++ drop (at + n) image)) (take_at front (drop (at + n) image) (at + n) size)
    ∙ ap (λ list. front ++ replicate m 255 ++ list) back
    ∙ ap (λ list. list ++ drop (at + (n + m)) image)
    (append_assoc (take at image) (replicate n 255) (replicate m 255) ∙ ap (λ list. take at image ++ list) (replicate-append-replicate n m 255))
  where
    regroup : (at n m : ℕ) → (at + n) + m ≡ at + (n + m)
    regroup at n m = omega arith

-- a block is erased behind others
block_more : (from block : ℕ) (image : List ℕ) → from ≤ block → 4096 * from ≤ length image
    → block_filled block 255 (filled (4096 * from) (4096 * block - 4096 * from) 255 image) ≡ filled (4096 * from) (4096 * (block + 1) - 4096 * from) 255 image
unfolding block_filled
block_more from block image early within =
    let at : 4096 * from + (4096 * block - 4096 * from) ≡ 4096 * block = omega arith in
    let more : (4096 * block - 4096 * from) + 4096 ≡ 4096 * (block + 1) - 4096 * from = omega arith in
    ap (λ k. filled k 4096 255 (filled (4096 * from) (4096 * block - 4096 * from) 255 image)) (sym at)
    ∙ filled_more (4096 * from) (4096 * block - 4096 * from) 4096 image within
    ∙ ap (λ n. filled (4096 * from) n 255 image) more

-- no block is erased yet
none_filled : (from : ℕ) (image : List ℕ) → image ≡ filled (4096 * from) (4096 * from - 4096 * from) 255 image
none_filled from image =
    let none : 4096 * from - 4096 * from ≡ 0 = omega arith in
    let same : 4096 * from + 0 ≡ 4096 * from = omega arith in
    sym (
    ap (λ n. filled (4096 * from) n 255 image) none
    ∙ ap (λ list. list ++ drop (4096 * from + 0) image) (append-nil (take (4096 * from) image))
    ∙ ap (λ n. take (4096 * from) image ++ drop n image) same
    ∙ take-append-drop (4096 * from) image
    )

-- what is told of an image whose blocks are erased from one on and before another
abbrev pub AreErased : ℕ → ℕ → Option (List ℕ) → Option (List ℕ) → Type 0
AreErased from to = Leaves (λ image left. left ≡ filled (4096 * from) (4096 * to - 4096 * from) 255 image)

pub no_blocks : (from : ℕ) (told : Option (List ℕ)) → AreErased from from told told
no_blocks from None = refl
no_blocks from (Some image) = none_filled from image

pub one_block : (from block : ℕ) (old now next : Option (List ℕ)) → from ≤ block → block < 32 → IfSome old (λ image. length image ≡ 131072)
    → AreErased from block old now → Leaves (λ image left. left ≡ block_filled block 255 image) now next → AreErased from (block + 1) old next
one_block from block old now next early few size was is =
    leaves_then (λ image left. left ≡ filled (4096 * from) (4096 * block - 4096 * from) 255 image) (λ image left. left ≡ block_filled block 255 image)
    (λ image left. left ≡ filled (4096 * from) (4096 * (block + 1) - 4096 * from) 255 image) old now next was is
    (λ image cells left told now e f.
    let whole = told_at (λ list. length list ≡ 131072) old image size told in
    f ∙ ap (block_filled block 255) e ∙ block_more from block image early (omega arith))

-- a part at the end that is filled is erased
end_blank : (at n : ℕ) (image : List ℕ) → length image ≡ at + n → is_blank (drop at (filled at n 255 image)) ≡ true
end_blank at n image size =
    let early : length (take at image) ≡ at = length-take-le at image (omega arith) in
    ap is_blank
    (
    ap (drop at) (append_assoc (take at image) (replicate n 255) (drop (at + n) image))
    ∙ drop_at (take at image) (replicate n 255 ++ drop (at + n) image) at early
    ∙ ap (λ list. replicate n 255 ++ list) (drop_all (at + n) image (omega arith))
    ∙ append-nil (replicate n 255)
    )
    ∙ replicate_blank n

-- what is told after the spare was erased
pub erased_told : (old new : Option (List ℕ)) → IfSome old (λ image. length image ≡ 131072) → AreErased 16 32 old new
    → Leaves (IsOutsideKept 65536 131072) old new → Leaves IsSpareErased old new
unfolding spare
erased_told None new size is outside = is
erased_told (Some image) None size is outside = absurd is
erased_told (Some image) (Some left) size is outside =
    record { outside = outside; blank = ap (λ list. is_blank (drop 65536 list)) is ∙ end_blank 65536 65536 image size }

-- bytes are below 256
pub are_bytes : (bytes : List ℕ) → ((k : ℕ) → get_or bytes k 0 < 256) → list_all (λ b. nat_lt b 256) bytes ≡ true
are_bytes [] each = refl
are_bytes (byte ∷ bytes) each = and_from _ _ (lt-ltb byte 256 (each 0)) (are_bytes bytes (λ k. each (suc k)))

-- the spare that was blank takes a volume's bytes
blank_takes : (bytes image : List ℕ) → length image ≡ 131072 → length bytes ≡ 57344 → list_all (λ b. nat_lt b 256) bytes ≡ true
    → is_blank (spare image) ≡ true → spare (programmed 65536 bytes image) ≡ bytes ++ replicate 8192 255
unfolding spare
blank_takes bytes image size long all blank =
    let early : length (take 65536 image) ≡ 65536 = length-take-le 65536 image (omega arith) in
    let rest : length (drop 65536 image) ≡ 65536 = omega (arith, size, length-drop 65536 image) in
    drop_at (take 65536 image) (cleared (drop 65536 image) bytes) 65536 early
    ∙ ap (λ list. cleared list bytes) (blank_replicate (drop 65536 image) blank ∙ ap (λ n. replicate n 255) rest ∙ sym (append-nil (replicate 65536 255)))
    ∙ erased_takes 65536 8192 bytes [] all (omega (arith, long))
    ∙ ap (λ list. bytes ++ list) (append-nil (replicate 8192 255))

-- what is told after the spare was filled
pub filled_told : (bytes : List ℕ) (old new : Option (List ℕ)) → IfSome old (λ image. length image ≡ 131072) → length bytes ≡ 57344
    → ((k : ℕ) → get_or bytes k 0 < 256) → Leaves (IsOutsideKept 65536 131072) old new
    → Leaves (λ image left. left ≡ programmed 65536 bytes image) old new → Leaves (IsSpareFilled bytes) old new
filled_told bytes None new size long each outside is = is
filled_told bytes (Some image) None size long each outside is = absurd is
filled_told bytes (Some image) (Some left) size long each outside is = record {
  outside = outside;
  filled = λ blank. ap spare is ∙ blank_takes bytes image size long (are_bytes bytes each) blank;
}

-- an erased volume takes a volume's bytes
volume_takes : (bytes image : List ℕ) → length bytes ≡ 57344 → list_all (λ b. nat_lt b 256) bytes ≡ true
    → volume (programmed 0 bytes (filled 0 57344 255 image)) ≡ bytes
unfolding volume
volume_takes bytes image long all =
    ap (take 57344) (erased_takes 57344 0 bytes (drop 57344 image) all (omega (arith, long))) ∙ take_at bytes (drop 57344 image) 57344 long

-- what is told after the volume was copied
pub copied_told : (bytes : List ℕ) (old mid new : Option (List ℕ)) → length bytes ≡ 57344 → ((k : ℕ) → get_or bytes k 0 < 256)
    → Leaves (IsOutsideKept 0 57344) old new → AreErased 0 14 old mid → Leaves (λ image left. left ≡ programmed 0 bytes image) mid new
    → Leaves (IsCopied bytes) old new
copied_told bytes old mid new long each outside erased is =
    copied old new outside
    (leaves_then (λ image left. left ≡ filled 0 57344 255 image) (λ image left. left ≡ programmed 0 bytes image) (λ image left. volume left ≡ bytes) old mid new
    erased is
    (λ image cells left told now e f. ap volume f ∙ ap (λ list. volume (programmed 0 bytes list)) e ∙ volume_takes bytes image long (are_bytes bytes each)))
  where
    copied : (old new : Option (List ℕ)) → Leaves (IsOutsideKept 0 57344) old new → Leaves (λ image left. volume left ≡ bytes) old new
        → Leaves (IsCopied bytes) old new
    copied None new outside is = is
    copied (Some image) None outside is = absurd is
    copied (Some image) (Some left) outside is = record { outside = outside; copied = is }

module _ {F : Type 0} {moment : F → ℕ} {left_since : F → ℕ → List ℕ → Type 0} {holds : F → Option (List ℕ)} where
  -- changes of the spare keep the content while no write is pending
  pub spare_moments : (old new : F) → IfSome (holds old) (λ image. IsClean (work_state (work_area image)))
      → Stays (IsOutsideKept 65536 131072) moment left_since holds old new → Stays IsContentKept moment left_since holds old new
  spare_moments old new clean run =
      stays_weaken (IsOutsideKept 65536 131072) IsContentKept old new run
      (λ image left told is.
      let slots = slots_of_clean _ (told_at (λ list. IsClean (work_state (work_area list))) (holds old) image clean told) in
      spare_changes image left slots.0 slots.1 is)

  -- changes of the volume keep the content while a write is pending
  pub volume_moments : (old new : F) → IfSome (holds old) (λ image. IsPending (work_state (work_area image)))
      → IfSome (holds old) (λ image. is_blank (spare image) ≡ false) → Stays (IsOutsideKept 0 57344) moment left_since holds old new
      → Stays IsContentKept moment left_since holds old new
  volume_moments old new pending used run =
      stays_weaken (IsOutsideKept 0 57344) IsContentKept old new run
      (λ image left told is.
      let slot = slot_of_pending _ (told_at (λ list. IsPending (work_state (work_area list))) (holds old) image pending told) in
      volume_changes image left slot.0 slot.1 (told_at (λ list. is_blank (spare list) ≡ false) (holds old) image used told) is)
