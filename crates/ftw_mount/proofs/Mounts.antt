-- What a mount leaves.
use Rattle.std.proofs.Common.{◌≡◌, inl, inr, ⊎_elim, ℕ, ◌+◌, Bool, true, false, List, drop, take, Option, IfSome, arith, refl, sym, ap, ◌∙◌, subst}
use Rattle.flash_dev.specs.Moments.{Stays}
use Rattle.flash_dev.specs.Rules.{IsKept, Leaves}
use Rattle.flash_dev.proofs.Calls.{leaves_then, told_at}
use Rattle.flash_dev.proofs.Moments.{stays_weaken}
use Rattle.ftw_mount.specs.declared.kept.Kept.{Kept}
use Rattle.ftw_mount.specs.Mount.{Describes, IsIdle, IsMountLeft, HasUsedSlots, IsWritePending}
use Rattle.ftw_spare.specs.Spare.{IsCopied}
use Rattle.ftw_work.specs.Work.{IsWorkLeft}
use Rattle.ftw_work.proofs.Told.{told_after, told_both, told_more, told_same}
use Rattle.var_types.specs.declared.work_state.WorkState.{WorkState}
use Rattle.var_types.specs.declared.work_state.WorkState.TheVariants.{Clean, Pending, Unclean}
use Rattle.var_types.specs.Kept.{IsContentKept, IsForeign, spare, spare_volume, volume, work_area}
use Rattle.var_types.specs.WorkArea.{IsClean, IsPending, is_blank, work_state}
use Rattle.var_types.proofs.Parts.{content_stays, spare_behind, spare_volume_same, work_behind}

-- an image that stays as it is
pub mount_stays : (image : List ℕ) → IsMountLeft image image
mount_stays image = record { kept = content_stays image; idle = λ idle. refl }

-- with a blank spare and a work area that isn't Clean something is to be done
pub unmade_busy : (image : List ℕ) → is_blank (spare image) ≡ true → (IsClean (work_state (work_area image)) → ⊥) → IsIdle image → ⊥
unmade_busy image blank unmade = ⊎_elim unmade (λ foreign. let no : true ≡ false = sym blank ∙ foreign.0 in cc)

-- and so it is where a write is pending
pub pending_busy : (image : List ℕ) (slot : ℕ) → work_state (work_area image) ≡ Pending slot → IsIdle image → ⊥
pending_busy image slot is =
    ⊎_elim (λ clean. subst IsClean is clean) (λ foreign. let no : Pending slot ≡ Unclean = sym is ∙ foreign.1 in cc)

module _ {F : Type 0} {moment : F → ℕ} {left_since : F → ℕ → List ℕ → Type 0} {holds : F → Option (List ℕ)} where
  -- the moments of a mount at which something is done
  pub mount_moments : (old new : F) → IfSome (holds old) (λ image. IsIdle image → ⊥) → Stays IsContentKept moment left_since holds old new
      → Stays IsMountLeft moment left_since holds old new
  mount_moments old new busy run =
      stays_weaken IsContentKept IsMountLeft old new run
      (λ image left told is.
      record { kept = is; idle = λ idle. absurd (told_at (λ list. IsIdle list → ⊥) (holds old) image busy told idle) })

  -- the moments of reads are those of a mount
  pub read_moments : (old new : F) → Stays IsKept moment left_since holds old new → Stays IsMountLeft moment left_since holds old new
  read_moments old new run = stays_weaken IsKept IsMountLeft old new run (λ image left told is. subst (IsMountLeft image) (sym is) (mount_stays image))

-- what is told of an image at which something is done
pub unmade_told : (told : Option (List ℕ)) → IfSome told (λ image. is_blank (spare image) ≡ true)
    → IfSome told (λ image. IsClean (work_state (work_area image)) → ⊥) → IfSome told (λ image. IsIdle image → ⊥)
unmade_told told blank unmade =
    told_both (λ image. is_blank (spare image) ≡ true) (λ image. IsClean (work_state (work_area image)) → ⊥) (λ image. IsIdle image → ⊥) told blank unmade
    unmade_busy

pub pending_told : (slot : ℕ) (told : Option (List ℕ)) → IfSome told (IsWritePending slot) → IfSome told (λ image. IsIdle image → ⊥)
pending_told slot told is = told_more (IsWritePending slot) (λ image. IsIdle image → ⊥) told is (λ image pending. pending_busy image slot pending.says)

-- a pending write, by the word of the spare's steps
pub is_pending : (slot : ℕ) (told : Option (List ℕ)) → IfSome told (IsWritePending slot) → IfSome told (λ image. IsPending (work_state (work_area image)))
is_pending slot told is =
    told_more (IsWritePending slot) (λ image. IsPending (work_state (work_area image))) told is (λ image pending. subst IsPending (sym pending.says) tt)

pub is_used : (slot : ℕ) (told : Option (List ℕ)) → IfSome told (IsWritePending slot) → IfSome told (λ image. is_blank (spare image) ≡ false)
is_used slot told is = told_more (IsWritePending slot) (λ image. is_blank (spare image) ≡ false) told is (λ image pending. pending.used)

-- the spare's content was read
pub spare_read : (n : ℕ) (buffer : List ℕ) (told : Option (List ℕ)) → n ≡ 57344 → IfSome told (λ image. buffer ≡ take n (drop 65536 image))
    → IfSome told (λ image. buffer ≡ spare_volume image)
unfolding spare spare_volume
spare_read n buffer told size read =
    told_more (λ image. buffer ≡ take n (drop 65536 image)) (λ image. buffer ≡ take 57344 (drop 65536 image)) told read
    (λ image e. e ∙ ap (λ k. take k (drop 65536 image)) size)

-- after the copy the write is still pending
pub still_pending : (slot : ℕ) (bytes : List ℕ) (old new : Option (List ℕ)) → IfSome old (IsWritePending slot) → Leaves (IsCopied bytes) old new
    → IfSome new (λ image. work_state (work_area image) ≡ Pending slot)
still_pending slot bytes old new is copied =
    told_after (IsWritePending slot) (IsCopied bytes) (λ image. work_state (work_area image) ≡ Pending slot) old new is copied
    (λ image left pending c. ap work_state (work_behind 0 57344 image left (omega arith) c.outside) ∙ pending.says)

-- and the volume is equal to the spare
pub now_equal : (bytes : List ℕ) (old new : Option (List ℕ)) → IfSome old (λ image. bytes ≡ spare_volume image) → Leaves (IsCopied bytes) old new
    → IfSome new (λ image. volume image ≡ spare_volume image)
now_equal bytes old new same copied =
    told_after (λ image. bytes ≡ spare_volume image) (IsCopied bytes) (λ image. volume image ≡ spare_volume image) old new same copied
    (λ image left e c. c.copied ∙ e ∙ sym (spare_volume_same image left (spare_behind 0 57344 image left (omega arith) c.outside)))

-- the destination gate was opened then
pub finished : (bytes : List ℕ) (slot : ℕ) (old now mid new : Option (List ℕ)) → now ≡ old → Leaves (IsCopied bytes) now mid
    → Leaves (IsWorkLeft (Clean (slot + 1))) mid new → Leaves (HasUsedSlots (slot + 1)) old new
finished bytes slot old now mid new same copied opened =
    subst (λ told. Leaves (HasUsedSlots (slot + 1)) told new) same
    (leaves_then (IsCopied bytes) (IsWorkLeft (Clean (slot + 1))) (HasUsedSlots (slot + 1)) now mid new copied opened
    (λ image cells left told at c w. w.says))

-- a fact of an image that was read is one of what is told now
pub told_now : (P : List ℕ → Type 0) (old now : Option (List ℕ)) → now ≡ old → IfSome old P → IfSome now P
told_now P old now same is = told_same P now old (sym same) is
