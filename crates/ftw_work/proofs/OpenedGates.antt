-- Gates that are opened: one bit each.
use Rattle.std.proofs.Common.{◌≡◌, inl, inr, ⊎_elim, ◌⊎◌, ℕ, suc, ◌+◌, ◌-◌, ◌*◌, ◌<◌, ◌≤◌, Bool, true, false, Option, IfSome, List, [], ◌∷◌, ◌++◌, length, take, drop, replicate, refl, sym, ap, ◌∙◌, subst, arith, add-one, length-append}
use Rattle.std.specs.Prelude.{bit_and}
use Rattle.std.proofs.lemmas.Bool.{cases_eq}
use Rattle.std.proofs.lemmas.List.{append_assoc, drop_at, length-take-le, replicate-append-replicate, take-append-drop, take_at}
use Rattle.std.proofs.lemmas.Nat.{and_le_l, and_le_r}
use Rattle.flash_dev.specs.Moments.{Stays}
use Rattle.flash_dev.specs.Rules.{AreBytesLeft, IsByteLeft, IsProgramLeft, Leaves, programmed}
use Rattle.flash_dev.proofs.Calls.{leaves_weaken, told_at}
use Rattle.flash_dev.proofs.Moments.{stays_weaken}
use Rattle.ftw_work.specs.Work.{IsSpareTaken, IsWorkLeft}
use Rattle.var_types.specs.declared.work_state.WorkState.{WorkState}
use Rattle.var_types.specs.declared.work_state.WorkState.TheVariants.{Clean, Pending}
use Rattle.var_types.specs.Kept.{IsContentKept, IsSound, chosen_part, content, spare, spare_volume, volume, work_area}
use Rattle.var_types.specs.WorkArea.{clean_area, done_slot, done_slots, half_slot, is_blank, pending_area, work_mark, work_state}
use Rattle.var_types.proofs.Parts.{clean_content, clean_sound, content_stays, framed_spare, framed_work, image_framed, pending_content, pending_sound, spare_behind, spare_volume_same, volume_before, work_size}
use Rattle.var_types.proofs.WorkAreas.{clean_says, length-clean_area, length-done_slots, length-pending_area, one_more_slot, pending_says, says_clean, says_pending}
use Rattle.ftw_work.proofs.Steps.{programmed_at}

-- an interrupted opening of a gate leaves it closed or open
gate_byte : (y : ℕ) → IsByteLeft 255 254 y → (y ≡ 255) ⊎ (y ≡ 254)
gate_byte y is =
    let low : y ≤ 255 = omega (arith, is.none_set, and_le_r y 255) in
    let high : 254 ≤ y = omega (arith, is.rest_kept, and_le_l y 254) in
    ⊎_elim inl (λ other. inr (omega (arith, low, high, other))) (cases_eq y 255)

-- the byte that is left of those that begin with the one that is programmed
one_byte : (x new : ℕ) (rest lefts : List ℕ) → AreBytesLeft (x ∷ rest) (new ∷ []) lefts → (y : ℕ) × (IsByteLeft x new y × (lefts ≡ y ∷ rest))
one_byte x new rest [] is = absurd is
one_byte x new rest (y ∷ lefts) is = (y, (is.0, ap (λ list. y ∷ list) is.1))

-- the image that is left of one whose gate is closed: the gate is closed or open, and all else as it was
gate_left : (at : ℕ) (front rest left : List ℕ) → length front ≡ at → IsProgramLeft at (254 ∷ []) (front ++ 255 ∷ rest) left
    → (left ≡ front ++ 255 ∷ rest) ⊎ (left ≡ front ++ 254 ∷ rest)
gate_left at front rest left size is =
    let range = subst (λ olds. AreBytesLeft olds (254 ∷ []) (drop at left)) (drop_at front (255 ∷ rest) at size) is.range in
    let one = one_byte 255 254 rest (drop at left) range in
    let whole : left ≡ front ++ one.0 ∷ rest =
    sym (take-append-drop at left) ∙ ap (λ list. list ++ drop at left) (is.before ∙ take_at front (255 ∷ rest) at size) ∙ ap (λ list. front ++ list) one.1.1 in
    ⊎_elim (λ e. inl (whole ∙ ap (λ y. front ++ y ∷ rest) e)) (λ e. inr (whole ∙ ap (λ y. front ++ y ∷ rest) e)) (gate_byte one.0 one.1.0)

-- a byte of the work area as one of the image
regroup : (front p q back : List ℕ) (x : ℕ) → front ++ ((p ++ x ∷ q) ++ back) ≡ (front ++ p) ++ x ∷ (q ++ back)
regroup front p q back x = ap (λ list. front ++ list) (append_assoc p (x ∷ q) back) ∙ sym (append_assoc front p (x ∷ (q ++ back)))

-- an image whose work area is replaced
pub work_replaced : (state : WorkState) (image left area : List ℕ) → length image ≡ 131072 → length area ≡ 4096
    → left ≡ take 61440 image ++ (area ++ spare image) → work_state area ≡ state → IsWorkLeft state image left
unfolding spare
work_replaced state image left area size block is says =
    let early : length (take 61440 image) ≡ 61440 = length-take-le 61440 image (omega arith) in
    record {
      outside = record {
        len =
            ap length is ∙ length-append (take 61440 image) (area ++ spare image)
            ∙ ap (λ n. length (take 61440 image) + n) (length-append area (spare image) ∙ ap (λ n. n + length (spare image)) (block ∙ sym (work_size image size)) ∙ sym (length-append (work_area image) (spare image)))
            ∙ sym (length-append (take 61440 image) (work_area image ++ spare image))
            ∙ ap length (sym (image_framed image));
        before = ap (take 61440) is ∙ take_at (take 61440 image) (area ++ spare image) 61440 early;
        behind = ap (drop 65536) is ∙ framed_spare (take 61440 image) area (spare image) early block;
      };
      says = ap (λ list. work_state (work_area list)) is ∙ ap work_state (framed_work (take 61440 image) area (spare image) early block) ∙ says;
    }

-- an image one gate of whose work area is closed
module _ (at : ℕ) (image left p q : List ℕ) (size : length image ≡ 131072) (closed : work_area image ≡ p ++ 255 ∷ q) (place : 61440 + length p ≡ at) where
  -- as what stands before the gate, that, and what stands behind it
  gated : image ≡ (take 61440 image ++ p) ++ 255 ∷ (q ++ spare image)
  gated =
      image_framed image ∙ ap (λ area. take 61440 image ++ (area ++ spare image)) closed ∙ regroup (take 61440 image) p q (spare image) 255

  before_gate : length (take 61440 image ++ p) ≡ at
  before_gate =
      length-append (take 61440 image) p ∙ ap (λ n. n + length p) (length-take-le 61440 image (omega arith)) ∙ place

  -- its opening leaves it closed or open
  gate_may : IsProgramLeft at (254 ∷ []) image left → (left ≡ image) ⊎ (left ≡ take 61440 image ++ ((p ++ 254 ∷ q) ++ spare image))
  gate_may is =
      ⊎_elim (λ e. inl (e ∙ sym gated)) (λ e. inr (e ∙ sym (regroup (take 61440 image) p q (spare image) 254)))
      (gate_left at (take 61440 image ++ p) (q ++ spare image) left before_gate (subst (λ old. IsProgramLeft at (254 ∷ []) old left) gated is))

  -- its opening opens it
  gate_opens : left ≡ programmed at (254 ∷ []) image → left ≡ take 61440 image ++ ((p ++ 254 ∷ q) ++ spare image)
  gate_opens is =
      is ∙ ap (programmed at (254 ∷ [])) gated ∙ programmed_at at (take 61440 image ++ p) (255 ∷ (q ++ spare image)) (254 ∷ []) before_gate
      ∙ sym (regroup (take 61440 image) p q (spare image) 254)

-- the header and the slots that are done
abbrev done_front : ℕ → List ℕ
done_front slot = work_mark ++ done_slots slot

length-done_front : (slot : ℕ) → length (done_front slot) ≡ 16 + 16 * slot
length-done_front slot = length-append work_mark (done_slots slot) ∙ omega (arith, length-done_slots slot)

-- the next slot's spare gate is closed
spare_closed : (slot : ℕ) → slot < 255 → clean_area slot ≡ done_front slot ++ 255 ∷ replicate (4079 - 16 * slot) 255
unfolding clean_area
spare_closed slot few =
    let more : 4080 - 16 * slot ≡ suc (4079 - 16 * slot) = omega arith in
    ap (λ n. done_front slot ++ replicate n 255) more

-- with it open the slot is pending
spare_opened : (slot : ℕ) → slot < 255 → done_front slot ++ 254 ∷ replicate (4079 - 16 * slot) 255 ≡ pending_area slot
unfolding pending_area
spare_opened slot few =
    let m : ℕ = 4064 - 16 * slot in
    let more : 4079 - 16 * slot ≡ 15 + m = omega arith in
    ap (λ n. done_front slot ++ 254 ∷ replicate n 255) more
    ∙ ap (λ list. done_front slot ++ 254 ∷ list) (sym (replicate-append-replicate 15 m 255))
    ∙ sym (append_assoc (done_front slot) half_slot (replicate m 255))

-- a pending slot's destination gate is closed
dest_closed : (slot : ℕ) → pending_area slot ≡ (done_front slot ++ 254 ∷ []) ++ 255 ∷ (replicate 14 255 ++ replicate (4064 - 16 * slot) 255)
unfolding pending_area
dest_closed slot =
    let rest = replicate (4064 - 16 * slot) 255 in
    append_assoc (done_front slot) half_slot rest ∙ sym (append_assoc (done_front slot) (254 ∷ []) (255 ∷ (replicate 14 255 ++ rest)))

-- with it open the slot is used
dest_opened : (slot : ℕ) → (done_front slot ++ 254 ∷ []) ++ 254 ∷ (replicate 14 255 ++ replicate (4064 - 16 * slot) 255) ≡ clean_area (slot + 1)
unfolding clean_area
dest_opened slot =
    let rest = replicate (4064 - 16 * slot) 255 in
    let few : 4064 - 16 * slot ≡ 4080 - 16 * (slot + 1) = omega arith in
    append_assoc (done_front slot) (254 ∷ []) (254 ∷ (replicate 14 255 ++ rest))
    ∙ sym (append_assoc (done_front slot) done_slot rest)
    ∙ ap (λ list. list ++ rest) (append_assoc work_mark (done_slots slot) done_slot ∙ ap (λ list. work_mark ++ list) (one_more_slot slot))
    ∙ ap (λ n. work_mark ++ done_slots n ++ rest) (sym (add-one slot))
    ∙ ap (λ n. work_mark ++ done_slots (slot + 1) ++ replicate n 255) few

-- an image that stays as it is keeps its content
same_kept : (image left : List ℕ) → left ≡ image → IsContentKept image left
same_kept image left e = subst (IsContentKept image) (sym e) (content_stays image)

-- with its spare gate open a spare that is used counts
spare_taken : (image left : List ℕ) (slot : ℕ) → is_blank (spare image) ≡ false → IsWorkLeft (Pending slot) image left → IsSpareTaken image left
spare_taken image left slot used is =
    let same = spare_behind 61440 65536 image left (omega arith) is.outside in
    record {
      content = inr (pending_content left slot (ap is_blank same ∙ used) is.says ∙ spare_volume_same image left same);
      sound = λ sound. pending_sound left slot is.says;
    }

-- where volume and spare hold the same it doesn't matter which of them counts
equal_part : (b : Bool) (slot : ℕ) (v s : List ℕ) → v ≡ s → chosen_part b (Pending slot) v s ≡ v
equal_part true slot v s e = refl
equal_part false slot v s e = sym e

equal_content : (image : List ℕ) (slot : ℕ) → work_state (work_area image) ≡ Pending slot → volume image ≡ spare_volume image → content image ≡ volume image
unfolding content
equal_content image slot says e =
    ap (λ state. chosen_part (is_blank (spare image)) state (volume image) (spare_volume image)) says
    ∙ equal_part (is_blank (spare image)) slot (volume image) (spare_volume image) e

-- with its destination gate open the volume counts, which is equal to the spare
volume_taken : (image left : List ℕ) (slot : ℕ) → work_state (work_area image) ≡ Pending slot → volume image ≡ spare_volume image
    → IsWorkLeft (Clean (slot + 1)) image left → IsContentKept image left
volume_taken image left slot says same is = record {
  content =
      clean_content left (slot + 1) is.says ∙ volume_before 61440 65536 image left (omega arith) is.outside ∙ sym (equal_content image slot says same);
  sound = λ sound. clean_sound left (slot + 1) is.says;
}

-- the opening of a spare gate
module _ (slot at : ℕ) (image left : List ℕ) (size : length image ≡ 131072) (few : slot < 255) (place : 61456 + 16 * slot ≡ at)
    (clean : work_state (work_area image) ≡ Clean slot) where
  before_spare_gate : 61440 + length (done_front slot) ≡ at
  before_spare_gate = omega (arith, place, length-done_front slot)

  is_spare_closed : work_area image ≡ done_front slot ++ 255 ∷ replicate (4079 - 16 * slot) 255
  is_spare_closed = (says_clean (work_area image) slot (work_size image size) clean).1 ∙ spare_closed slot few

  pending_left : left ≡ take 61440 image ++ ((done_front slot ++ 254 ∷ replicate (4079 - 16 * slot) 255) ++ spare image) → IsWorkLeft (Pending slot) image left
  pending_left e =
      work_replaced (Pending slot) image left (pending_area slot) size (length-pending_area slot few)
      (e ∙ ap (λ area. take 61440 image ++ (area ++ spare image)) (spare_opened slot few)) (pending_says slot few)

  pub spare_gate_opens : left ≡ programmed at (254 ∷ []) image → IsWorkLeft (Pending slot) image left
  spare_gate_opens is =
      pending_left (gate_opens at image left (done_front slot) (replicate (4079 - 16 * slot) 255) size is_spare_closed before_spare_gate is)

  pub spare_gate_may : is_blank (spare image) ≡ false → IsProgramLeft at (254 ∷ []) image left → IsSpareTaken image left
  spare_gate_may used is =
      ⊎_elim
      (λ e. let kept = same_kept image left e in record { content = inl kept.content; sound = kept.sound })
      (λ e. spare_taken image left slot used (pending_left e))
      (gate_may at image left (done_front slot) (replicate (4079 - 16 * slot) 255) size is_spare_closed before_spare_gate is)

-- the opening of a destination gate
module _ (slot at : ℕ) (image left : List ℕ) (size : length image ≡ 131072) (few : slot < 255) (place : 61457 + 16 * slot ≡ at)
    (pending : work_state (work_area image) ≡ Pending slot) where
  before_dest_gate : 61440 + length (done_front slot ++ 254 ∷ []) ≡ at
  before_dest_gate = omega (arith, place, length-done_front slot, length-append (done_front slot) (254 ∷ []))

  is_dest_closed : work_area image ≡ (done_front slot ++ 254 ∷ []) ++ 255 ∷ (replicate 14 255 ++ replicate (4064 - 16 * slot) 255)
  is_dest_closed = (says_pending (work_area image) slot (work_size image size) pending).1 ∙ dest_closed slot

  used_left : left ≡ take 61440 image ++ (((done_front slot ++ 254 ∷ []) ++ 254 ∷ (replicate 14 255 ++ replicate (4064 - 16 * slot) 255)) ++ spare image)
      → IsWorkLeft (Clean (slot + 1)) image left
  used_left e =
      let all : slot + 1 ≤ 255 = omega arith in
      work_replaced (Clean (slot + 1)) image left (clean_area (slot + 1)) size (length-clean_area (slot + 1) all)
      (e ∙ ap (λ area. take 61440 image ++ (area ++ spare image)) (dest_opened slot)) (clean_says (slot + 1) all)

  pub dest_gate_opens : left ≡ programmed at (254 ∷ []) image → IsWorkLeft (Clean (slot + 1)) image left
  dest_gate_opens is =
      used_left
      (gate_opens at image left (done_front slot ++ 254 ∷ []) (replicate 14 255 ++ replicate (4064 - 16 * slot) 255) size is_dest_closed before_dest_gate is)

  pub dest_gate_may : volume image ≡ spare_volume image → IsProgramLeft at (254 ∷ []) image left → IsContentKept image left
  dest_gate_may same is =
      ⊎_elim (same_kept image left) (λ e. volume_taken image left slot pending same (used_left e))
      (gate_may at image left (done_front slot ++ 254 ∷ []) (replicate 14 255 ++ replicate (4064 - 16 * slot) 255) size is_dest_closed before_dest_gate is)

-- what is told after the opening of a gate
pub spare_gate_told : (slot at : ℕ) (old new : Option (List ℕ)) → slot < 255 → 61456 + 16 * slot ≡ at → IfSome old (λ image. length image ≡ 131072)
    → IfSome old (λ image. work_state (work_area image) ≡ Clean slot) → Leaves (λ image left. left ≡ programmed at (254 ∷ []) image) old new
    → Leaves (IsWorkLeft (Pending slot)) old new
spare_gate_told slot at old new few place size clean is =
    leaves_weaken (λ image left. left ≡ programmed at (254 ∷ []) image) (IsWorkLeft (Pending slot)) old new is
    (λ image left told e.
    spare_gate_opens slot at image left (told_at (λ list. length list ≡ 131072) old image size told) few place
    (told_at (λ list. work_state (work_area list) ≡ Clean slot) old image clean told) e)

pub dest_gate_told : (slot at : ℕ) (old new : Option (List ℕ)) → slot < 255 → 61457 + 16 * slot ≡ at → IfSome old (λ image. length image ≡ 131072)
    → IfSome old (λ image. work_state (work_area image) ≡ Pending slot) → Leaves (λ image left. left ≡ programmed at (254 ∷ []) image) old new
    → Leaves (IsWorkLeft (Clean (slot + 1))) old new
dest_gate_told slot at old new few place size pending is =
    leaves_weaken (λ image left. left ≡ programmed at (254 ∷ []) image) (IsWorkLeft (Clean (slot + 1))) old new is
    (λ image left told e.
    dest_gate_opens slot at image left (told_at (λ list. length list ≡ 131072) old image size told) few place
    (told_at (λ list. work_state (work_area list) ≡ Pending slot) old image pending told) e)

module _ {F : Type 0} {moment : F → ℕ} {left_since : F → ℕ → List ℕ → Type 0} {holds : F → Option (List ℕ)} where
  -- the moments of the opening of a gate
  pub spare_gate_moments : (slot at : ℕ) (old new : F) → slot < 255 → 61456 + 16 * slot ≡ at → IfSome (holds old) (λ image. length image ≡ 131072)
      → IfSome (holds old) (λ image. work_state (work_area image) ≡ Clean slot) → IfSome (holds old) (λ image. is_blank (spare image) ≡ false)
      → Stays (IsProgramLeft at (254 ∷ [])) moment left_since holds old new → Stays IsSpareTaken moment left_since holds old new
  spare_gate_moments slot at old new few place size clean used run =
      stays_weaken (IsProgramLeft at (254 ∷ [])) IsSpareTaken old new run
      (λ image left told is.
      spare_gate_may slot at image left (told_at (λ list. length list ≡ 131072) (holds old) image size told) few place
      (told_at (λ list. work_state (work_area list) ≡ Clean slot) (holds old) image clean told)
      (told_at (λ list. is_blank (spare list) ≡ false) (holds old) image used told) is)

  pub dest_gate_moments : (slot at : ℕ) (old new : F) → slot < 255 → 61457 + 16 * slot ≡ at → IfSome (holds old) (λ image. length image ≡ 131072)
      → IfSome (holds old) (λ image. work_state (work_area image) ≡ Pending slot) → IfSome (holds old) (λ image. volume image ≡ spare_volume image)
      → Stays (IsProgramLeft at (254 ∷ [])) moment left_since holds old new → Stays IsContentKept moment left_since holds old new
  dest_gate_moments slot at old new few place size pending copied run =
      stays_weaken (IsProgramLeft at (254 ∷ [])) IsContentKept old new run
      (λ image left told is.
      dest_gate_may slot at image left (told_at (λ list. length list ≡ 131072) (holds old) image size told) few place
      (told_at (λ list. work_state (work_area list) ≡ Pending slot) (holds old) image pending told)
      (told_at (λ list. volume list ≡ spare_volume list) (holds old) image copied told) is)
