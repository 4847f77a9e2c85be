-- What an opening of the store leaves, and when an image is refused.
use Rattle.std.proofs.Common.{◌≡◌, ◌≢◌, ◌⊎◌, inl, ⊎_elim, ℕ, ◌==◌, Bool, true, false, List, length, take, Option, Some, None, Result, Ok, Err, IsOk, IfErr, IfOk, IfSome, OnOk, if◌then◌else◌, refl, sym, ap, subst, ◌∙◌}
use Rattle.flash_dev.specs.declared.geometry.Geometry.{Geometry}
use Rattle.flash_dev.specs.declared.image_fault.ImageFault.{ImageFault}
use Rattle.flash_dev.specs.declared.image_fault.ImageFault.TheVariants.{ImageSize}
use Rattle.flash_dev.specs.Geometry.{geometry_of}
use Rattle.flash_dev.specs.Moments.{Stays}
use Rattle.flash_dev.specs.Rules.{Leaves}
use Rattle.flash_dev.proofs.Calls.{told_at}
use Rattle.flash_dev.proofs.Moments.{stays_more, stays_weaken}
use Rattle.ftw_mount.specs.Mount.{HasUsedSlots, IsMountLeft, content_geometry}
use Rattle.ftw_work.proofs.Told.{told_both, told_more}
use Rattle.nv_store.specs.declared.load_fault.LoadWhy.{LoadWhy}
use Rattle.nv_store.specs.declared.load_fault.LoadWhy.TheVariants.{Device, ForeignWork, Image}
use Rattle.nv_store.specs.Mirror.{IsMirrored, IsMirroredAt}
use Rattle.nv_store.specs.Opening.{IsByImage, IsInOrder, IsOpeningLeft, refusal_by, refusal_of}
use Rattle.nv_store.specs.Tidy.{IsTidy}
use Rattle.var_types.specs.declared.store.Store.TheVariants.{NonVolatile}
use Rattle.var_types.specs.declared.work_state.WorkState.{WorkState}
use Rattle.var_types.specs.declared.work_state.WorkState.TheVariants.{Clean, Pending, Unclean}
use Rattle.var_types.specs.Kept.{IsContentOr, IsForeign, content, kept, spare, work_area}
use Rattle.var_types.specs.Stores.{map_in, store_region}
use Rattle.var_types.specs.WorkArea.{is_blank, work_state}
use Rattle.var_types.proofs.Parts.{clean_content}
use Rattle.nv_store.proofs.Keeps.{kept_of, mirrored_content}

-- what was read of an image of its size has its geometry
pub geometry_is : (image buffer : List ℕ) → length image ≡ 131072 → buffer ≡ content image → content_geometry image ≡ geometry_of (take 100 buffer)
unfolding content_geometry
geometry_is image buffer size read =
    ap (λ n. if n == 131072 then geometry_of (take 100 (content image)) else Err (ImageSize n 131072)) size
    ∙ ap (λ bytes. geometry_of (take 100 bytes)) (sym read)

-- headers that are refused refuse the image
pub refused_by_headers : (buffer : List ℕ) (fault : ImageFault) (told : Option (List ℕ)) → IfSome told (λ image. length image ≡ 131072)
    → IfSome told (λ image. buffer ≡ content image) → geometry_of (take 100 buffer) ≡ Err fault
    → IfSome told (λ image. refusal_of image ≡ Some (Image fault))
unfolding refusal_of
refused_by_headers buffer fault told sized read is =
    told_both (λ image. length image ≡ 131072) (λ image. buffer ≡ content image) (λ image. refusal_of image ≡ Some (Image fault)) told sized read
    (λ image size same.
    ap (λ g. refusal_by g (is_blank (spare image)) (work_state (work_area image))) (geometry_is image buffer size same ∙ is))

-- headers that are accepted leave the question whether it is foreign work
foreign_by : (g : Result Geometry ImageFault) (b : Bool) (state : WorkState) → IsOk g → b ≡ false → state ≡ Unclean
    → refusal_by g b state ≡ Some ForeignWork
foreign_by (Ok geometry) b state ok used unclean = ap (λ x. refusal_by (Ok geometry) x state) used ∙ ap (refusal_by (Ok geometry) false) unclean
foreign_by (Err fault) b state ok used unclean = cc

pub own_by : (g : Result Geometry ImageFault) (b : Bool) (state : WorkState) → IsOk g → ((b ≡ false) × (state ≡ Unclean) → ⊥)
    → refusal_by g b state ≡ None
own_by (Err fault) b state ok own = cc
own_by (Ok geometry) true state ok own = refl
own_by (Ok geometry) false (Clean slots) ok own = refl
own_by (Ok geometry) false (Pending slot) ok own = refl
own_by (Ok geometry) false Unclean ok own = absurd (own (refl, refl))

-- the geometry is one
accepted_geometry : (image buffer : List ℕ) → length image ≡ 131072 → buffer ≡ content image → IsOk (geometry_of (take 100 buffer)) → IsOk (content_geometry image)
accepted_geometry image buffer size read ok = subst (λ g. IsOk g) (sym (geometry_is image buffer size read)) ok

pub refused_by_work : (buffer : List ℕ) (told : Option (List ℕ)) → IfSome told (λ image. length image ≡ 131072)
    → IfSome told (λ image. buffer ≡ content image) → IsOk (geometry_of (take 100 buffer)) → IfSome told IsForeign
    → IfSome told (λ image. refusal_of image ≡ Some ForeignWork)
unfolding refusal_of
refused_by_work buffer None sized read ok foreign = tt
refused_by_work buffer (Some image) sized read ok foreign =
    foreign_by (content_geometry image) (is_blank (spare image)) (work_state (work_area image)) (accepted_geometry image buffer sized read ok) foreign.0 foreign.1

pub accepted_image : (buffer : List ℕ) (told : Option (List ℕ)) → IfSome told (λ image. length image ≡ 131072)
    → IfSome told (λ image. buffer ≡ content image) → IsOk (geometry_of (take 100 buffer)) → IfSome told (λ image. IsForeign image → ⊥)
    → IfSome told (λ image. refusal_of image ≡ None)
unfolding refusal_of
accepted_image buffer None sized read ok own = tt
accepted_image buffer (Some image) sized read ok own =
    own_by (content_geometry image) (is_blank (spare image)) (work_state (work_area image)) (accepted_geometry image buffer sized read ok) own

-- a volume that was read, of an image that was mounted then
pub mounted_mirror : (mirror : List ℕ) (slots : ℕ) (old now new : Option (List ℕ)) → now ≡ old → IfSome old (λ image. mirror ≡ content image)
    → Leaves (HasUsedSlots slots) now new → Leaves IsMountLeft now new → IfSome new (IsMirroredAt mirror slots)
mounted_mirror mirror slots old None new same read used left = subst (λ told. IfSome told (IsMirroredAt mirror slots)) (sym used) tt
mounted_mirror mirror slots old (Some image) None same read used left = tt
mounted_mirror mirror slots old (Some image) (Some cells) same read used left =
    let was : mirror ≡ content image = subst (λ told. IfSome told (λ bytes. mirror ≡ content bytes)) (sym same) read in
    record { same = sym (clean_content cells slots used) ∙ left.kept.content ∙ sym was; says = used }

-- a mount leaves what an opening may
mount_opening : (image left : List ℕ) → IsMountLeft image left → IsOpeningLeft image left
mount_opening image left is = record {
  kept = kept_of left (content image) is.kept.content ∙ sym (kept_of image (content image) refl);
  headers = ap (take 100) is.kept.content;
  sound = is.kept.sound;
  idle = λ order. is.idle (inl order.clean);
}

-- an opening, and then another
pub opening_both : (image cells left : List ℕ) → IsOpeningLeft image cells → IsOpeningLeft cells left → IsOpeningLeft image left
opening_both image cells left first second = record {
  kept = second.kept ∙ first.kept;
  headers = second.headers ∙ first.headers;
  sound = λ sound. second.sound (first.sound sound);
  idle = λ order. second.idle (subst IsInOrder (sym (first.idle order)) order) ∙ first.idle order;
}

-- a write of the volume that changes no variable leaves what an opening may
rewrite_opening : (mirror bytes image left : List ℕ) → IsMirrored mirror image → map_in NonVolatile bytes ≡ map_in NonVolatile mirror
    → take 100 bytes ≡ take 100 mirror → (IsTidy (store_region NonVolatile mirror) → ⊥) → IsContentOr bytes image left → IsOpeningLeft image left
rewrite_opening mirror bytes image left is map headers untidy left_is =
    let at = mirrored_content mirror image is in
    let was = kept_of image mirror at in
    record {
      kept = ⊎_elim (λ e. kept_of left mirror (e ∙ at) ∙ sym was) (λ e. kept_of left bytes e ∙ map ∙ sym was) left_is.content;
      headers = ⊎_elim (λ e. ap (take 100) e) (λ e. ap (take 100) e ∙ headers ∙ ap (take 100) (sym at)) left_is.content;
      sound = left_is.sound;
      idle = λ order. absurd (untidy (subst (λ v. IsTidy (store_region NonVolatile v)) is.same order.tidy));
    }

module _ {F : Type 0} {moment : F → ℕ} {left_since : F → ℕ → List ℕ → Type 0} {holds : F → Option (List ℕ)} where
  pub mount_moments : (old new : F) → Stays IsMountLeft moment left_since holds old new → Stays IsOpeningLeft moment left_since holds old new
  mount_moments old new run = stays_weaken IsMountLeft IsOpeningLeft old new run (λ image left told is. mount_opening image left is)

  pub rewrite_moments : (mirror bytes : List ℕ) (old new : F) → IfSome (holds old) (IsMirrored mirror)
      → map_in NonVolatile bytes ≡ map_in NonVolatile mirror → take 100 bytes ≡ take 100 mirror → (IsTidy (store_region NonVolatile mirror) → ⊥)
      → Stays (IsContentOr bytes) moment left_since holds old new → Stays IsOpeningLeft moment left_since holds old new
  rewrite_moments mirror bytes old new mirrored map headers untidy run =
      stays_weaken (IsContentOr bytes) IsOpeningLeft old new run
      (λ image left told is. rewrite_opening mirror bytes image left (told_at (IsMirrored mirror) (holds old) image mirrored told) map headers untidy is)

  pub opening_moments : (old mid new : F) → Stays IsMountLeft moment left_since holds old mid → Stays IsOpeningLeft moment left_since holds mid new
      → Stays IsOpeningLeft moment left_since holds old new
  opening_moments old mid new run next =
      stays_more IsOpeningLeft IsOpeningLeft old mid new (mount_moments old mid run) next
      (λ image cells left told now first second. opening_both image cells left first second)

-- what was read is what the image keeps
pub opened_map : (mirror bytes : List ℕ) (told : Option (List ℕ)) → map_in NonVolatile bytes ≡ map_in NonVolatile mirror
    → IfSome told (λ image. mirror ≡ content image) → IfSome told (λ image. map_in NonVolatile bytes ≡ kept image)
opened_map mirror bytes told map read =
    told_more (λ image. mirror ≡ content image) (λ image. map_in NonVolatile bytes ≡ kept image) told read
    (λ image e. map ∙ sym (kept_of image mirror (sym e)))

pub opened_headers : (mirror bytes : List ℕ) (told : Option (List ℕ)) → take 100 bytes ≡ take 100 mirror
    → IfSome told (λ image. mirror ≡ content image) → IfSome told (λ image. take 100 bytes ≡ take 100 (content image))
opened_headers mirror bytes told headers read =
    told_more (λ image. mirror ≡ content image) (λ image. take 100 bytes ≡ take 100 (content image)) told read (λ image e. headers ∙ ap (take 100) e)

-- the answers of a mount, after the headers of what was read were accepted
module _ (buffer : List ℕ) (old now : Option (List ℕ)) (same : now ≡ old) (read : IfSome old (λ image. buffer ≡ content image)) where
  pub mount_mirrors : (new : Option (List ℕ)) (result : Result ℕ LoadWhy) → IfOk result (λ slots. Leaves (HasUsedSlots slots) now new)
      → Leaves IsMountLeft now new → IfOk result (λ slots. IfSome new (IsMirroredAt buffer slots))
  mount_mirrors new (Ok slots) used left = mounted_mirror buffer slots old now new same read used left
  mount_mirrors new (Err why) used left = tt

  module _ (sized : IfSome old (λ image. length image ≡ 131072)) (ok : IsOk (geometry_of (take 100 buffer))) where
    pub mount_accepts : (result : Result ℕ LoadWhy) → (result ≢ Err Device → IfSome now (λ image. IsForeign image → result ≡ Err ForeignWork))
        → OnOk result (IfSome old (λ image. refusal_of image ≡ None))
    mount_accepts (Err why) only = tt
    mount_accepts (Ok slots) only =
        let own : IfSome now (λ image. IsForeign image → Ok slots ≡ Err ForeignWork) = only (λ e. cc) in
        accepted_image buffer old sized read ok
        (subst (λ told. IfSome told (λ image. IsForeign image → ⊥)) same
        (told_more (λ image. IsForeign image → Ok slots ≡ Err ForeignWork) (λ image. IsForeign image → ⊥) now own (λ image is foreign. let no = is foreign in cc)))

    pub mount_refuses : (result : Result ℕ LoadWhy) → (result ≡ Err ForeignWork → IfSome now IsForeign)
        → IfErr result (λ why. (why ≡ ForeignWork) ⊎ (why ≡ Device))
        → IfErr result (λ why. IsByImage (Some why) → IfSome old (λ image. refusal_of image ≡ Some why))
    mount_refuses (Ok slots) foreign two = tt
    mount_refuses (Err why) foreign two =
        ⊎_elim
        (λ e by_image.
        subst (λ w. IfSome old (λ image. refusal_of image ≡ Some w)) (sym e)
        (refused_by_work buffer old sized read ok (subst (λ told. IfSome told IsForeign) same (foreign (ap Err e)))))
        (λ e by_image. absurd (subst (λ w. IsByImage (Some w)) e by_image)) two

-- headers that were refused
pub headers_refuse : (buffer : List ℕ) (why : LoadWhy) (told : Option (List ℕ)) → IfSome told (λ image. length image ≡ 131072)
    → IfSome told (λ image. buffer ≡ content image) → (fault : ImageFault) × (why ≡ Image fault) × (geometry_of (take 100 buffer) ≡ Err fault)
    → IfSome told (λ image. refusal_of image ≡ Some why)
headers_refuse buffer why told sized read is =
    subst (λ w. IfSome told (λ image. refusal_of image ≡ Some w)) (sym is.1) (refused_by_headers buffer is.0 told sized read is.2)
