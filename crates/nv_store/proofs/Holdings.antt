-- A store keeps what it is to keep, after each of its calls.
use Rattle.std.proofs.Common.{◌≡◌, ◌≢◌, inl, inr, ⊎_elim, ℕ, ◌==◌, ◌≤◌, Bool, true, false, List, length, take, Option, Some, None, Err, IsOk, IfSome, if◌then◌else◌, refl, sym, ap, subst, ◌∙◌}
use Rattle.std.proofs.lemmas.Bool.{eqb-true}
use Rattle.flash_dev.specs.declared.image_fault.ImageFault.TheVariants.{ImageSize}
use Rattle.flash_dev.specs.Geometry.{geometry_of}
use Rattle.flash_dev.specs.Rules.{Leaves}
use Rattle.ftw_mount.specs.Mount.{content_geometry}
use Rattle.ftw_work.proofs.Told.{told_after, told_both, told_more}
use Rattle.nv_store.specs.declared.load_fault.LoadWhy.TheVariants.{Image}
use Rattle.nv_store.specs.Changes.{IsSameStore}
use Rattle.nv_store.specs.Mirror.{HasSlots, IsHeld, IsInDoubt, IsMirrored, IsMirroredAt, IsStore, IsTold, doubt_of}
use Rattle.nv_store.specs.Opening.{refusal_by, refusal_of}
use Rattle.nv_store.specs.Outcome.{IsChangeLeft}
use Rattle.nv_store.specs.Tidy.{IsTidy}
use Rattle.nv_store.proofs.Keeps.{at_mirrored, kept_of, mirrored_content, mirrored_kept, mirrored_sound}
use Rattle.var_types.specs.declared.key.Key.{Key}
use Rattle.var_types.specs.declared.store.Store.TheVariants.{NonVolatile}
use Rattle.var_types.specs.declared.variable.Variable.{Variable}
use Rattle.var_types.specs.declared.work_state.WorkState.TheVariants.{Clean}
use Rattle.var_types.specs.Kept.{IsContentOr, content, kept, spare, work_area}
use Rattle.var_types.specs.Stores.{map_in, store_region}
use Rattle.var_types.specs.WorkArea.{is_blank, work_state}

-- without a change in doubt
pub held_sure : (size : ℕ) (told : Option (List ℕ)) (mirror scratch : List ℕ) (slots : ℕ) → size ≡ 131072 → length mirror ≡ 57344
    → length scratch ≡ 57344 → IsOk (geometry_of (take 100 mirror)) → IsTidy (store_region NonVolatile mirror) → slots ≤ 255
    → IfSome told (IsMirroredAt mirror slots) → IsHeld size told mirror scratch slots None
held_sure size told mirror scratch slots flash len room headers tidy few at = record {
  store = record { flash = flash; len = len; headers = headers; tidy = tidy; image = at_mirrored mirror slots told at };
  scratch = room;
  slots = few;
  used = told_more (IsMirroredAt mirror slots) (λ image. work_state (work_area image) ≡ Clean slots) told at (λ image is. is.says);
}

pub held_opened : (size now : ℕ) (told : Option (List ℕ)) (shown mirror scratch : List ℕ) (slots : ℕ) → shown ≡ mirror → now ≡ size → size ≡ 131072
    → length mirror ≡ 57344 → length scratch ≡ 57344 → IsOk (geometry_of (take 100 mirror)) → IsTidy (store_region NonVolatile mirror) → slots ≤ 255
    → IfSome told (IsMirroredAt mirror slots) → IsHeld now told shown scratch slots None
held_opened size now told shown mirror scratch slots same still flash len room headers tidy few at =
    subst (λ m. IsHeld now told m scratch slots None) (sym same) (held_sure now told mirror scratch slots (still ∙ flash) len room headers tidy few at)

-- what is told then
pub held_at : (size : ℕ) (told : Option (List ℕ)) (mirror scratch : List ℕ) (slots : ℕ) → IsHeld size told mirror scratch slots None
    → IfSome told (IsMirroredAt mirror slots)
held_at size told mirror scratch slots is =
    told_both (IsMirrored mirror) (HasSlots slots None) (IsMirroredAt mirror slots) told is.store.image is.used
    (λ image mirrored says. record { same = mirrored.same; says = says })

-- with a change in doubt nothing is known of the slots
none_known : (slots : ℕ) (after : List ℕ) (told : Option (List ℕ)) → IfSome told (HasSlots slots (Some after))
none_known slots after None = tt
none_known slots after (Some image) = tt

-- with a change in doubt
held_unsure : (size now : ℕ) (old new : Option (List ℕ)) (mirror room scratch after : List ℕ) (slots : ℕ) (doubt : Option (List ℕ))
    → IsHeld size old mirror room slots doubt → now ≡ size → length scratch ≡ 57344 → IfSome new (IsInDoubt mirror after)
    → IsHeld now new mirror scratch slots (Some after)
held_unsure size now old new mirror room scratch after slots doubt is same len told = record {
  store = record { flash = same ∙ is.store.flash; len = is.store.len; headers = is.store.headers; tidy = is.store.tidy; image = told };
  scratch = len;
  slots = is.slots;
  used = none_known slots after new;
}

-- a change that failed
change_doubt : (change : List (Key × Variable) → List (Key × Variable)) (mirror after image left : List ℕ) → IsMirrored mirror image
    → map_in NonVolatile after ≡ change (map_in NonVolatile mirror) → IsChangeLeft change image left → IsInDoubt mirror after left
change_doubt change mirror after image left is map changed =
    let was = mirrored_kept mirror image is in
    record {
      kept = ⊎_elim (λ e. inl (e ∙ was)) (λ e. inr (e ∙ ap change was ∙ sym map)) changed.kept;
      headers = changed.headers ∙ ap (take 100) (mirrored_content mirror image is);
      sound = changed.sound (mirrored_sound mirror image is);
    }

pub held_doubt : (change : List (Key × Variable) → List (Key × Variable)) (size now : ℕ) (old new : Option (List ℕ)) (mirror room scratch after : List ℕ)
    (slots : ℕ) (doubt : Option (List ℕ)) → doubt ≡ None → IsHeld size old mirror room slots doubt → now ≡ size → length scratch ≡ 57344
    → map_in NonVolatile after ≡ change (map_in NonVolatile mirror) → Leaves (IsChangeLeft change) old new
    → IsHeld now new mirror scratch slots (Some after)
held_doubt change size now old new mirror room scratch after slots doubt sure is same len map left =
    let mirrored : IfSome old (IsMirrored mirror) = subst (λ d. IfSome old (IsTold mirror d)) sure is.store.image in
    held_unsure size now old new mirror room scratch after slots doubt is same len
    (told_after (IsMirrored mirror) (IsChangeLeft change) (IsInDoubt mirror after) old new mirrored left
    (λ image bytes was changed. change_doubt change mirror after image bytes was map changed))

-- a removal that was done
pub held_removed : (size now : ℕ) (old new : Option (List ℕ)) (mirror room bytes next scratch : List ℕ) (slots : ℕ) (doubt : Option (List ℕ))
    → doubt ≡ None → IsHeld size old mirror room slots doubt → now ≡ size → next ≡ bytes → length scratch ≡ 57344 → IsSameStore NonVolatile mirror bytes
    → IsTidy (store_region NonVolatile bytes) → IfSome new (IsMirroredAt bytes slots) → IsHeld now new next scratch slots doubt
held_removed size now old new mirror room bytes next scratch slots doubt sure is same swapped len kept_in tidy told =
    subst (λ d. IsHeld now new next scratch slots d) (sym sure)
    (subst (λ b. IsHeld now new b scratch slots None) (sym swapped)
    (held_sure now new bytes scratch slots (same ∙ is.store.flash) (kept_in.len ∙ is.store.len) len
    (subst (λ front. IsOk (geometry_of front)) (sym kept_in.headers) is.store.headers) tidy is.slots told))

-- a writing of the mirror that failed, without a change in doubt
heal_doubt : (mirror image left : List ℕ) → IsMirrored mirror image → IsContentOr mirror image left → IsInDoubt mirror mirror left
heal_doubt mirror image left is left_is =
    let at : content left ≡ mirror = ⊎_elim (λ e. e ∙ mirrored_content mirror image is) (λ e. e) left_is.content in
    record { kept = inl (kept_of left mirror at); headers = ap (take 100) at; sound = left_is.sound (mirrored_sound mirror image is) }

pub held_first : (size now : ℕ) (old new : Option (List ℕ)) (mirror room scratch after : List ℕ) (slots : ℕ) (d : Bool) (before : List ℕ)
    → d ≡ false → IsHeld size old mirror room slots (doubt_of d before) → now ≡ size → length scratch ≡ 57344 → after ≡ mirror
    → Leaves (IsContentOr mirror) old new → IsHeld now new mirror scratch slots (Some after)
held_first size now old new mirror room scratch after slots true before sure is same len snapshot left = cc
held_first size now old new mirror room scratch after slots false before sure is same len snapshot left =
    held_unsure size now old new mirror room scratch after slots None is same len
    (subst (λ a. IfSome new (IsInDoubt mirror a)) (sym snapshot)
    (told_after (IsMirrored mirror) (IsContentOr mirror) (IsInDoubt mirror mirror) old new is.store.image left (λ image bytes. heal_doubt mirror image bytes)))

-- and with one
still_doubt : (mirror after image left : List ℕ) → IsInDoubt mirror after image → IsContentOr mirror image left → IsInDoubt mirror after left
still_doubt mirror after image left is left_is = record {
  kept =
      ⊎_elim
      (λ e. ⊎_elim (λ k. inl (kept_of left (content image) e ∙ sym (kept_of image (content image) refl) ∙ k))
      (λ k. inr (kept_of left (content image) e ∙ sym (kept_of image (content image) refl) ∙ k)) is.kept)
      (λ e. inl (kept_of left mirror e)) left_is.content;
  headers = ⊎_elim (λ e. ap (take 100) e ∙ is.headers) (λ e. ap (take 100) e) left_is.content;
  sound = left_is.sound is.sound;
}

pub held_still : (size now : ℕ) (old new : Option (List ℕ)) (mirror room scratch : List ℕ) (slots : ℕ) (d : Bool) (before : List ℕ)
    → d ≡ true → IsHeld size old mirror room slots (doubt_of d before) → now ≡ size → length scratch ≡ 57344
    → Leaves (IsContentOr mirror) old new → IsHeld now new mirror scratch slots (doubt_of d before)
held_still size now old new mirror room scratch slots false before unsure is same len left = cc
held_still size now old new mirror room scratch slots true before unsure is same len left =
    held_unsure size now old new mirror room scratch before slots (Some before) is same len
    (told_after (IsInDoubt mirror before) (IsContentOr mirror) (IsInDoubt mirror before) old new is.store.image left
    (λ image bytes. still_doubt mirror before image bytes))

-- a mirror that was written is what is kept
pub healed_kept : (R : List ℕ → List ℕ → Type 0) (bytes : List ℕ) (slots : ℕ) (old new : Option (List ℕ)) → Leaves R old new
    → IfSome new (IsMirroredAt bytes slots) → Leaves (λ _ left. kept left ≡ map_in NonVolatile bytes) old new
healed_kept R bytes slots None new left is = left
healed_kept R bytes slots (Some image) None left is = left
healed_kept R bytes slots (Some image) (Some cells) left is =
    mirrored_kept bytes cells (at_mirrored bytes slots (Some cells) is)

-- an image of another size is refused by it
pub refused_by_size : (have n : ℕ) (told : Option (List ℕ)) → have ≡ n → have ≢ 131072 → IfSome told (λ image. length image ≡ n)
    → IfSome told (λ image. refusal_of image ≡ Some (Image (ImageSize have 131072)))
unfolding refusal_of content_geometry
refused_by_size have n told e other sized =
    told_more (λ image. length image ≡ n) (λ image. refusal_of image ≡ Some (Image (ImageSize have 131072))) told sized
    (λ image size.
    ap (λ g. refusal_by g (is_blank (spare image)) (work_state (work_area image)))
    (ap (λ k. if k == 131072 then geometry_of (take 100 (content image)) else Err (ImageSize k 131072)) (size ∙ sym e)
    ∙ ap (λ b. if b then geometry_of (take 100 (content image)) else Err (ImageSize have 131072)) (by (have == 131072) refl)))
  where
    by : (b : Bool) → (have == 131072) ≡ b → b ≡ false
    by true same = absurd (other (eqb-true have 131072 same))
    by false same = refl

-- what a store's image keeps, where no change is in doubt
pub sure_kept : (size : ℕ) (told : Option (List ℕ)) (mirror : List ℕ) (doubt : Option (List ℕ)) → IsStore size told mirror doubt → doubt ≡ None
    → IfSome told (λ image. kept image ≡ map_in NonVolatile mirror)
sure_kept size told mirror doubt is sure =
    told_more (IsMirrored mirror) (λ image. kept image ≡ map_in NonVolatile mirror) told
    (subst (λ d. IfSome told (IsTold mirror d)) sure is.image) (mirrored_kept mirror)
