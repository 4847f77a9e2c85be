-- A flash behind calls that stay lists from where it did before them.
use Rattle.std.proofs.Common.{◌≡◌, inl, inr, ⊎_elim, ◌⊎◌, ℕ, suc, ◌≤◌, ◌<◌, Bool, true, false, List, [], ◌∷◌, Option, Some, None, length, take, drop, refl, sym, ap, ◌∙◌, arith, length-take, length-drop}
use Rattle.std.specs.Prelude.{slice_get}
use Rattle.svc_core.specs.declared.flash_step.FlashStep.{FlashStep}
use Rattle.svc_core.specs.FlashSteps.{Moments, after_step}
use Rattle.var_types.specs.declared.work_state.WorkState.{WorkState}
use Rattle.var_types.specs.declared.work_state.WorkState.TheVariants.{Clean, Pending, Unclean}
use Rattle.var_types.specs.Kept.{chosen_part, content, spare, spare_volume, volume, work_area}
use Rattle.var_types.specs.Layout.{headers_size, image_size, spare_offset, volume_size}
use Rattle.var_types.specs.WorkArea.{is_blank, work_state}
use Rattle.play_steps.specs.ListedFlash.{IsLeftIn, IsLeftSince, IsMark, ListedState, StaysListed}

-- lists with the same elements are one
same_elements : (xs ys : List ℕ) → ((at : ℕ) → slice_get xs at ≡ slice_get ys at) → xs ≡ ys
same_elements [] [] same = refl
same_elements [] (y ∷ ys) same = let first = same 0 in cc
same_elements (x ∷ xs) [] same = let first = same 0 in cc
same_elements (x ∷ xs) (y ∷ ys) same =
    let first : x ≡ y = let here = same 0 in cc in
    let rest = same_elements xs ys (λ at. same (suc at)) in
    λ i. first i ∷ rest i

-- of two parts the chosen one has a length that both have
chosen_length : (blank : Bool) (state : WorkState) (of_volume of_spare : List ℕ) (P : ℕ → Type 0) → P (length of_volume) → P (length of_spare)
    → P (length (chosen_part blank state of_volume of_spare))
chosen_length true state of_volume of_spare P one other = one
chosen_length false (Pending slot) of_volume of_spare P one other = other
chosen_length false (Clean slots) of_volume of_spare P one other = one
chosen_length false Unclean of_volume of_spare P one other = one

-- an image's content has headers
content_of_image : (image : List ℕ) → length image ≡ image_size → 100 ≤ length (content image)
unfolding content spare spare_volume volume
content_of_image image size =
    chosen_length (is_blank (spare image)) (work_state (work_area image)) (volume image) (spare_volume image) (λ n. 100 ≤ n)
    (omega (arith, length-take volume_size image))
    (omega (arith, length-take volume_size (drop spare_offset image), length-drop spare_offset image))

-- a list that is too short for them has none
content_of_short : (left : List ℕ) → length left < 100 → length (content left) < 100
unfolding content spare spare_volume volume
content_of_short left short =
    chosen_length (is_blank (spare left)) (work_state (work_area left)) (volume left) (spare_volume left) (λ n. n < 100)
    (omega (arith, length-take volume_size left)) (omega (arith, length-take volume_size (drop spare_offset left), length-drop spare_offset left))

-- so no image leaves such a list, where what is left has the image's headers
pub not_short : (image left : List ℕ) → length image ≡ image_size → length left < 100
    → take headers_size (content left) ≡ take headers_size (content image) → ⊥
not_short image left size short headers =
    omega (arith, content_of_image image size, content_of_short left short, length-take headers_size (content left), length-take headers_size (content image), ap length headers)

-- what is left stands in a relation that no short list stands in
pub record HasNoShort (IsLeft : List ℕ → List ℕ → Type 0) (image : List ℕ) : Type 0 where
  pub none : (left : List ℕ) → length left < 100 → IsLeft image left → ⊥

module _ (IsLeft : List ℕ → List ℕ → Type 0) (first : List ℕ) (faults : ℕ) (new : ListedState) (size : length first ≡ image_size) (none : HasNoShort IsLeft first) (stays : StaysListed IsLeft (record { first = first; steps = []; faults = faults }) new) where
  abbrev old : ListedState
  old = record { first = first; steps = []; faults = faults }

  -- a mark that is told behind the calls was told before
  mark_before : (mark : List ℕ) → length mark < 100 → IsMark new.first mark → IsMark first mark
  mark_before mark short told =
      ⊎_elim
      (λ (before : IsLeftSince old 0 mark).
      ⊎_elim (λ is. absurd (let same : length mark ≡ length first = ap length is in omega (arith, same, size))) (λ marked. marked.1) before)
      (λ left. absurd (none.none mark short left)) (stays.each 0 mark (omega arith) (inr (refl, told)))

  -- so each byte is as it was
  byte_before : (at : ℕ) (byte : Option ℕ) → slice_get new.first at ≡ byte → slice_get new.first at ≡ slice_get first at
  byte_before at None is = is ∙ sym (mark_before (at ∷ []) (omega arith) is)
  byte_before at (Some byte) is = is ∙ sym (mark_before (at ∷ byte ∷ []) (omega arith) is)

  pub first_same : new.first ≡ first
  first_same = same_elements new.first first (λ at. byte_before at (slice_get new.first at) refl)

  -- what may be left in the steps listed is the image of before, or may be left by the calls
  pub left_by_calls : (left : List ℕ) → IsLeftIn new.steps new.first left → (left ≡ first) ⊎ IsLeft first left
  left_by_calls left is =
      ⊎_elim
      (λ (before : IsLeftSince old 1 left).
      ⊎_elim inl (λ marked. absurd (let later : 1 ≡ 0 = marked.0 in omega arith)) before)
      inr (stays.each 1 left (omega arith) (inl is))

-- images that steps may leave have a property at each moment of the steps
pub at_each_moment : (P : List ℕ → Type 0) (steps : List FlashStep) (image : List ℕ) → ((left : List ℕ) → IsLeftIn steps image left → P left)
    → Moments P image steps
at_each_moment P [] image all = all image refl
at_each_moment P (step ∷ steps) image all = (
  all image (inl refl),
  λ left is. all left (inr (inl is)),
  at_each_moment P steps (after_step step image) (λ left is. all left (inr (inr is))),
)
