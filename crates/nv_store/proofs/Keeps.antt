-- What an image keeps by its volume, and what a change of the volume keeps at any moment.
use Rattle.std.proofs.Common.{◌≡◌, inl, inr, ⊎_elim, ℕ, ◌+◌, ◌-◌, Bool, true, false, List, ◌++◌, length, take, drop, replicate, Option, Some, None, Err, IsOk, IfSome, if◌then◌else◌, arith, refl, sym, ap, subst, ◌∙◌}
use Rattle.std.proofs.Math.ListN.{drop_of_length-le}
use Rattle.std.proofs.lemmas.List.{append-nil, take-replicate, take-take, take_all}
use Rattle.flash_dev.specs.declared.image_fault.ImageFault.TheVariants.{NotAVolume}
use Rattle.flash_dev.specs.Geometry.{geometry_of, volume_check}
use Rattle.flash_dev.specs.Moments.{Stays}
use Rattle.flash_dev.specs.Rules.{Leaves}
use Rattle.flash_dev.proofs.Calls.{told_at}
use Rattle.flash_dev.proofs.Moments.{stays_weaken}
use Rattle.ftw_mount.specs.Mount.{IsWritten}
use Rattle.ftw_work.proofs.Told.{told_after, told_more}
use Rattle.var_region.specs.declared.new_record.NewRecord.{NewRecord}
use Rattle.var_region.specs.NewRecord.{new_size}
use Rattle.var_region.specs.Written.{fits_behind}
use Rattle.var_types.specs.declared.key.Key.{Key}
use Rattle.var_types.specs.declared.store.Store.{Store}
use Rattle.var_types.specs.declared.store.Store.TheVariants.{NonVolatile}
use Rattle.var_types.specs.declared.variable.Variable.{Variable}
use Rattle.var_types.specs.declared.work_state.WorkState.TheVariants.{Clean}
use Rattle.var_types.specs.Kept.{IsContentOr, IsSound, content, kept, volume, work_area}
use Rattle.var_types.specs.Placed.{placed}
use Rattle.var_types.specs.Region.{Region, region_map}
use Rattle.var_types.specs.Spans.{pasted}
use Rattle.var_types.specs.Stores.{map_in, store_region}
use Rattle.var_types.specs.WorkArea.{IsClean, is_blank, work_state}
use Rattle.var_types.proofs.Parts.{clean_content, clean_sound}
use Rattle.var_types.proofs.WorkAreas.{blank_replicate, slots_of_clean}
use Rattle.nv_store.specs.Mirror.{IsMirrored, IsMirroredAt}
use Rattle.nv_store.specs.Outcome.{IsChangeLeft, IsKeptWith}
use Rattle.nv_store.specs.Places.{anew_spans, in_place_spans, put_spans}
use Rattle.nv_store.specs.StepsLeft.{IsMapOr, IsStepLeft}
use Rattle.nv_store.proofs.Stepping.{same_work}

-- an image keeps the variables of its content
pub kept_of : (image bytes : List ℕ) → content image ≡ bytes → kept image ≡ map_in NonVolatile bytes
unfolding kept map_in
kept_of image bytes same = ap (λ list. region_map (store_region NonVolatile list)) same

-- where no write is pending, that is its volume
pub mirrored_content : (mirror image : List ℕ) → IsMirrored mirror image → content image ≡ mirror
mirrored_content mirror image is =
    let state = slots_of_clean (work_state (work_area image)) is.clean in clean_content image state.0 state.1 ∙ is.same

pub mirrored_kept : (mirror image : List ℕ) → IsMirrored mirror image → kept image ≡ map_in NonVolatile mirror
mirrored_kept mirror image is = kept_of image mirror (mirrored_content mirror image is)

pub mirrored_sound : (mirror image : List ℕ) → IsMirrored mirror image → IsSound image
mirrored_sound mirror image is =
    let state = slots_of_clean (work_state (work_area image)) is.clean in clean_sound image state.0 state.1

-- the headers stay where records alone change
same_front : (image left : List ℕ) → take 100 left ≡ take 100 image → take 100 (volume left) ≡ take 100 (volume image)
unfolding volume
same_front image left e = take-take 100 57344 left (omega arith) ∙ e ∙ sym (take-take 100 57344 image (omega arith))

-- a mirror's slots
pub at_mirrored : (mirror : List ℕ) (slots : ℕ) (told : Option (List ℕ)) → IfSome told (IsMirroredAt mirror slots) → IfSome told (IsMirrored mirror)
at_mirrored mirror slots told is =
    told_more (IsMirroredAt mirror slots) (IsMirrored mirror) told is
    (λ image at. record { same = at.same; clean = subst IsClean (sym at.says) tt })

-- steps in place leave a change
step_change : (change : List (Key × Variable) → List (Key × Variable)) (mirror image left : List ℕ) → IsMirrored mirror image
    → IsStepLeft (IsMapOr change mirror) image left → IsChangeLeft change image left
step_change change mirror image left is step =
    let state = slots_of_clean (work_state (work_area image)) is.clean in
    let says : work_state (work_area left) ≡ Clean state.0 = ap work_state (same_work image left step.outside) ∙ state.1 in
    let at : content left ≡ volume left = clean_content left state.0 says in
    let was : kept image ≡ map_in NonVolatile mirror = mirrored_kept mirror image is in
    record {
      kept =
          ⊎_elim (λ e. inl (kept_of left (volume left) at ∙ e ∙ sym was)) (λ e. inr (kept_of left (volume left) at ∙ e ∙ ap change (sym was))) step.is;
      headers =
          ap (take 100) at ∙ same_front image left step.outside.before ∙ ap (take 100) (sym (clean_content image state.0 state.1));
      sound = λ sound. clean_sound left state.0 says;
    }

-- a write of the volume leaves a change
write_change : (change : List (Key × Variable) → List (Key × Variable)) (mirror bytes image left : List ℕ) → IsMirrored mirror image
    → map_in NonVolatile bytes ≡ change (map_in NonVolatile mirror) → take 100 bytes ≡ take 100 mirror → IsContentOr bytes image left
    → IsChangeLeft change image left
write_change change mirror bytes image left is map headers left_is =
    let at = mirrored_content mirror image is in
    record {
      kept =
          ⊎_elim (λ e. inl (kept_of left mirror (e ∙ at) ∙ sym (kept_of image mirror at)))
          (λ e. inr (kept_of left bytes e ∙ map ∙ ap change (sym (kept_of image mirror at)))) left_is.content;
      headers = ⊎_elim (λ e. ap (take 100) e) (λ e. ap (take 100) e ∙ headers ∙ ap (take 100) (sym at)) left_is.content;
      sound = left_is.sound;
    }

module _ {F : Type 0} {moment : F → ℕ} {left_since : F → ℕ → List ℕ → Type 0} {holds : F → Option (List ℕ)} where
  -- the moments of a change in place, by bytes that were a mirror's before it
  pub step_moments : (change : List (Key × Variable) → List (Key × Variable)) (mirror bytes : List ℕ) (old new : F) → bytes ≡ mirror
      → IfSome (holds old) (IsMirrored mirror) → Stays (IsStepLeft (IsMapOr change bytes)) moment left_since holds old new
      → Stays (IsChangeLeft change) moment left_since holds old new
  step_moments change mirror bytes old new same mirrored run =
      let before : IfSome (holds old) (IsMirrored bytes) = subst (λ list. IfSome (holds old) (IsMirrored list)) (sym same) mirrored in
      stays_weaken (IsStepLeft (IsMapOr change bytes)) (IsChangeLeft change) old new run
      (λ image left told step. step_change change bytes image left (told_at (IsMirrored bytes) (holds old) image before told) step)

  -- and those of a write of the volume
  pub write_moments : (change : List (Key × Variable) → List (Key × Variable)) (mirror bytes : List ℕ) (old new : F)
      → IfSome (holds old) (IsMirrored mirror) → map_in NonVolatile bytes ≡ change (map_in NonVolatile mirror) → take 100 bytes ≡ take 100 mirror
      → Stays (IsContentOr bytes) moment left_since holds old new → Stays (IsChangeLeft change) moment left_since holds old new
  write_moments change mirror bytes old new mirrored map headers run =
      stays_weaken (IsContentOr bytes) (IsChangeLeft change) old new run
      (λ image left told is. write_change change mirror bytes image left (told_at (IsMirrored mirror) (holds old) image mirrored told) map headers is)

-- what is kept at the end of a change
pub kept_with : (change : List (Key × Variable) → List (Key × Variable)) (mirror bytes : List ℕ) (R : List ℕ → List ℕ → Type 0) (old new : Option (List ℕ))
    → Leaves R old new → IfSome old (IsMirrored mirror) → IfSome new (IsMirrored bytes) → map_in NonVolatile bytes ≡ change (map_in NonVolatile mirror)
    → Leaves (IsKeptWith change) old new
kept_with change mirror bytes R None new is was now map = is
kept_with change mirror bytes R (Some image) None is was now map = is
kept_with change mirror bytes R (Some image) (Some left) is was now map =
    mirrored_kept bytes left now ∙ map ∙ ap change (sym (mirrored_kept mirror image was))

-- the slots stay where records alone change
pub step_slots : (P : List ℕ → Type 0) (mirror bytes : List ℕ) (slots : ℕ) (old new : Option (List ℕ)) → Leaves (IsStepLeft P) old new
    → IfSome old (IsMirroredAt mirror slots) → IfSome new (IsMirrored bytes) → IfSome new (IsMirroredAt bytes slots)
step_slots P mirror bytes slots None new is was now = subst (λ told. IfSome told (IsMirroredAt bytes slots)) (sym is) tt
step_slots P mirror bytes slots (Some image) None is was now = tt
step_slots P mirror bytes slots (Some image) (Some left) is was now =
    record { same = now.same; says = ap work_state (same_work image left is.outside) ∙ was.says }

-- what is told after a write of the volume
pub written_told : (bytes : List ℕ) (slots : ℕ) (P : List ℕ → Type 0) (old new : Option (List ℕ)) → IfSome old P → Leaves (IsWritten bytes slots) old new
    → IfSome new (IsMirroredAt bytes slots)
written_told bytes slots P old new was is =
    told_after P (IsWritten bytes slots) (IsMirroredAt bytes slots) old new was is (λ image left p w. record { same = w.volume; says = w.says })

-- accepted headers aren't blank
blank_refused : (bytes : List ℕ) → take 100 bytes ≡ replicate 100 255 → IsOk (geometry_of (take 100 bytes)) → ⊥
unfolding geometry_of volume_check
blank_refused bytes e ok =
    let is : geometry_of (replicate 100 255) ≡ Err (NotAVolume 16) = refl in
    let no : IsOk (geometry_of (replicate 100 255)) = subst (λ front. IsOk (geometry_of front)) e ok in cc

pub accepted_used : (bytes : List ℕ) → length bytes ≡ 57344 → IsOk (geometry_of (take 100 bytes)) → is_blank bytes ≡ false
accepted_used bytes size ok = by (is_blank bytes) refl
  where
    by : (b : Bool) → is_blank bytes ≡ b → b ≡ false
    by false e = refl
    by true e =
        let same : bytes ≡ replicate 57344 255 = blank_replicate bytes e ∙ ap (λ n. replicate n 255) size in
        absurd (blank_refused bytes (ap (take 100) same ∙ take-replicate {X = ℕ} 100 57344 255 (omega arith)) ok)

-- bytes that are written over as a whole
all_pasted : (region : Region) (bytes : List ℕ) → length bytes ≡ length region.bytes → pasted (anew_spans region) bytes region.bytes ≡ bytes
unfolding placed
all_pasted region bytes size =
    let old = region.bytes in
    let all : length old - 0 ≡ length old = omega arith in
    let whole : take (length old - 0) bytes ≡ bytes = ap (λ n. take n bytes) all ∙ take_all (length old) bytes (omega (arith, size)) in
    let begin : 0 + length bytes ≡ length bytes = omega arith in
    ap (λ list. list ++ drop (0 + length list) old) whole
    ∙ ap (λ n. bytes ++ drop n old) begin
    ∙ ap (λ rest. bytes ++ rest) (drop_of_length-le old {i = length bytes} (omega (arith, size)))
    ∙ append-nil bytes

-- and nowhere else
pub anew_pasted : (store : Store) (new : NewRecord) (old bytes : List ℕ) → length bytes ≡ length old
    → fits_behind (store_region store old) (new_size new) ≡ false → pasted (put_spans store old new) bytes old ≡ bytes
unfolding put_spans
anew_pasted store new old bytes size full =
    ap (λ b. pasted (if b then in_place_spans (store_region store old) new else anew_spans (store_region store old)) bytes old) full
    ∙ all_pasted (store_region store old) bytes size
