-- What the write of a volume's content leaves.
use Rattle.std.proofs.Common.{◌≡◌, inl, inr, ⊎_elim, ℕ, ◌+◌, ◌<◌, ◌≤◌, ◌&&◌, Bool, true, false, List, ◌++◌, length, take, replicate, Option, Some, None, IfSome, arith, refl, sym, ap, ◌∙◌, subst}
use Rattle.std.specs.List.{list_all}
use Rattle.std.proofs.lemmas.Bool.{and_left}
use Rattle.std.proofs.lemmas.List.{take_at}
use Rattle.std.proofs.lemmas.List.Folds.{list_all-append}
use Rattle.flash_dev.specs.Moments.{Stays}
use Rattle.flash_dev.specs.Rules.{Leaves}
use Rattle.flash_dev.proofs.Calls.{leaves_then, leaves_weaken, told_at}
use Rattle.flash_dev.proofs.Moments.{stays_then, stays_weaken}
use Rattle.ftw_mount.specs.Mount.{HasUsedSlots, IsPrepared, IsReady, IsWritten}
use Rattle.ftw_spare.specs.Spare.{IsCopied, IsSpareErased, IsSpareFilled}
use Rattle.ftw_work.specs.Work.{IsSpareTaken, IsWorkLeft}
use Rattle.ftw_work.proofs.Told.{told_after, told_both, told_more}
use Rattle.var_types.specs.declared.work_state.WorkState.{WorkState}
use Rattle.var_types.specs.declared.work_state.WorkState.TheVariants.{Clean, Pending}
use Rattle.var_types.specs.Kept.{IsContentKept, IsContentOr, content, spare, spare_volume, volume, work_area}
use Rattle.var_types.specs.WorkArea.{IsClean, IsPending, is_blank, work_state}
use Rattle.var_types.proofs.Parts.{outside_both, pending_content, pending_sound, spare_behind, spare_volume_same, volume_before, work_before, work_behind}

-- a state with used slots alone is Clean
pub is_clean : (slots : ℕ) (told : Option (List ℕ)) → IfSome told (λ image. work_state (work_area image) ≡ Clean slots)
    → IfSome told (λ image. IsClean (work_state (work_area image)))
is_clean slots told is =
    told_more (λ image. work_state (work_area image) ≡ Clean slots) (λ image. IsClean (work_state (work_area image))) told is
    (λ image e. subst IsClean (sym e) tt)

-- the spare is blank where it was erased
pub now_blank : (old new : Option (List ℕ)) → IfSome old (λ image. IsClean (work_state (work_area image))) → Leaves IsSpareErased old new
    → IfSome new (λ image. is_blank (spare image) ≡ true)
now_blank old new clean erased =
    told_after (λ image. IsClean (work_state (work_area image))) IsSpareErased (λ image. is_blank (spare image) ≡ true) old new clean erased
    (λ image left c e. e.blank)

-- and no write is pending still
pub still_clean : (old new : Option (List ℕ)) → IfSome old (λ image. IsClean (work_state (work_area image))) → Leaves IsSpareErased old new
    → IfSome new (λ image. IsClean (work_state (work_area image)))
still_clean old new clean erased =
    told_after (λ image. IsClean (work_state (work_area image))) IsSpareErased (λ image. IsClean (work_state (work_area image))) old new clean erased
    (λ image left c e. subst IsClean (sym (ap work_state (work_before 65536 131072 image left (omega arith) e.outside))) c)

-- a work area that was made anew has a free slot
pub renewed : (old mid new : Option (List ℕ)) → Leaves IsSpareErased old mid → Leaves (IsWorkLeft (Clean 0)) mid new → Leaves (HasUsedSlots 0) old new
renewed old mid new erased made =
    leaves_then IsSpareErased (IsWorkLeft (Clean 0)) (HasUsedSlots 0) old mid new erased made (λ image cells left told now e w. w.says)

-- the spare was erased, and then filled
pub prepared : (bytes : List ℕ) (old mid new : Option (List ℕ)) → Leaves IsSpareErased old mid → Leaves (IsSpareFilled bytes) mid new
    → Leaves (IsPrepared bytes) old new
prepared bytes old mid new erased filled =
    leaves_then IsSpareErased (IsSpareFilled bytes) (IsPrepared bytes) old mid new erased filled
    (λ image cells left told now e f.
    record { outside = outside_both 65536 131072 image cells left e.outside f.outside; filled = f.filled e.blank })

-- a content that isn't blank makes the spare used
used_by : (bytes image : List ℕ) → is_blank bytes ≡ false → spare image ≡ bytes ++ replicate 8192 255 → is_blank (spare image) ≡ false
used_by bytes image used filled =
    ap is_blank filled ∙ list_all-append _ bytes (replicate 8192 255) ∙ and_left _ _ used

-- and is what the spare has for the volume
volume_by : (bytes image : List ℕ) → length bytes ≡ 57344 → spare image ≡ bytes ++ replicate 8192 255 → spare_volume image ≡ bytes
unfolding spare_volume
volume_by bytes image size filled = ap (take 57344) filled ∙ take_at bytes (replicate 8192 255) 57344 size

-- what is told before the slot's spare gate is opened
pub ready_clean : (slot : ℕ) (bytes : List ℕ) (told : Option (List ℕ)) → IfSome told (IsReady slot bytes)
    → IfSome told (λ image. work_state (work_area image) ≡ Clean slot)
ready_clean slot bytes told ready = told_more (IsReady slot bytes) (λ image. work_state (work_area image) ≡ Clean slot) told ready (λ image r. r.says)

pub ready_used : (slot : ℕ) (bytes : List ℕ) (told : Option (List ℕ)) → is_blank bytes ≡ false → IfSome told (IsReady slot bytes)
    → IfSome told (λ image. is_blank (spare image) ≡ false)
ready_used slot bytes told used ready =
    told_more (IsReady slot bytes) (λ image. is_blank (spare image) ≡ false) told ready (λ image r. used_by bytes image used r.filled)

-- an image whose spare gate was opened: the write is pending
pub record IsTaken (slot : ℕ) (bytes image : List ℕ) : Type 0 where
  pub says : work_state (work_area image) ≡ Pending slot
  pub used : is_blank (spare image) ≡ false
  pub filled : spare_volume image ≡ bytes

pub taken : (slot : ℕ) (bytes : List ℕ) (old new : Option (List ℕ)) → length bytes ≡ 57344 → is_blank bytes ≡ false → IfSome old (IsReady slot bytes)
    → Leaves (IsWorkLeft (Pending slot)) old new → IfSome new (IsTaken slot bytes)
taken slot bytes old new size used ready opened =
    told_after (IsReady slot bytes) (IsWorkLeft (Pending slot)) (IsTaken slot bytes) old new ready opened
    (λ image left r w.
    let same = spare_behind 61440 65536 image left (omega arith) w.outside in
    record {
      says = w.says;
      used = ap is_blank same ∙ used_by bytes image used r.filled;
      filled = spare_volume_same image left same ∙ volume_by bytes image size r.filled;
    })

-- it is still pending after the copy, and the volume is equal to the spare
pub record IsDone (slot : ℕ) (bytes image : List ℕ) : Type 0 where
  pub says : work_state (work_area image) ≡ Pending slot
  pub volume : volume image ≡ bytes
  pub spare : spare_volume image ≡ bytes

pub done : (slot : ℕ) (bytes : List ℕ) (old new : Option (List ℕ)) → IfSome old (IsTaken slot bytes) → Leaves (IsCopied bytes) old new
    → IfSome new (IsDone slot bytes)
done slot bytes old new is copied =
    told_after (IsTaken slot bytes) (IsCopied bytes) (IsDone slot bytes) old new is copied
    (λ image left t c. record {
      says = ap work_state (work_behind 0 57344 image left (omega arith) c.outside) ∙ t.says;
      volume = c.copied;
      spare = spare_volume_same image left (spare_behind 0 57344 image left (omega arith) c.outside) ∙ t.filled;
    })

-- what is told at each of these points
pub taken_pending : (slot : ℕ) (bytes : List ℕ) (told : Option (List ℕ)) → IfSome told (IsTaken slot bytes)
    → IfSome told (λ image. IsPending (work_state (work_area image)))
taken_pending slot bytes told is =
    told_more (IsTaken slot bytes) (λ image. IsPending (work_state (work_area image))) told is (λ image t. subst IsPending (sym t.says) tt)

pub taken_used : (slot : ℕ) (bytes : List ℕ) (told : Option (List ℕ)) → IfSome told (IsTaken slot bytes) → IfSome told (λ image. is_blank (spare image) ≡ false)
taken_used slot bytes told is = told_more (IsTaken slot bytes) (λ image. is_blank (spare image) ≡ false) told is (λ image t. t.used)

pub taken_same : (slot : ℕ) (bytes : List ℕ) (told : Option (List ℕ)) → IfSome told (IsTaken slot bytes) → IfSome told (λ image. bytes ≡ spare_volume image)
taken_same slot bytes told is = told_more (IsTaken slot bytes) (λ image. bytes ≡ spare_volume image) told is (λ image t. sym t.filled)

pub done_pending : (slot : ℕ) (bytes : List ℕ) (told : Option (List ℕ)) → IfSome told (IsDone slot bytes)
    → IfSome told (λ image. work_state (work_area image) ≡ Pending slot)
done_pending slot bytes told is = told_more (IsDone slot bytes) (λ image. work_state (work_area image) ≡ Pending slot) told is (λ image d. d.says)

pub done_equal : (slot : ℕ) (bytes : List ℕ) (told : Option (List ℕ)) → IfSome told (IsDone slot bytes)
    → IfSome told (λ image. volume image ≡ spare_volume image)
done_equal slot bytes told is =
    told_more (IsDone slot bytes) (λ image. volume image ≡ spare_volume image) told is (λ image d. d.volume ∙ sym d.spare)

-- the destination gate was opened
pub written : (slot : ℕ) (bytes : List ℕ) (old mid new : Option (List ℕ)) → Leaves (λ _ _. Unit {0}) old mid → IfSome mid (IsDone slot bytes)
    → Leaves (IsWorkLeft (Clean (slot + 1))) mid new → Leaves (IsWritten bytes (slot + 1)) old new
written slot bytes old mid new some is opened =
    leaves_then (λ _ _. Unit {0}) (IsWorkLeft (Clean (slot + 1))) (IsWritten bytes (slot + 1)) old mid new some opened
    (λ image cells left told now u w.
    let d = told_at (IsDone slot bytes) mid cells is now in
    record {
      says = w.says;
      volume = volume_before 61440 65536 cells left (omega arith) w.outside ∙ d.volume;
      spare = spare_volume_same cells left (spare_behind 61440 65536 cells left (omega arith) w.outside) ∙ d.spare;
    })

-- what is told stays told
pub told_still : (R : List ℕ → List ℕ → Type 0) (old new : Option (List ℕ)) → Leaves R old new → Leaves (λ _ _. Unit {0}) old new
told_still R old new is = leaves_weaken R (λ _ _. Unit {0}) old new is (λ image left told r. tt)

pub told_further : (old mid new : Option (List ℕ)) → Leaves (λ _ _. Unit {0}) old mid → Leaves (λ _ _. Unit {0}) mid new → Leaves (λ _ _. Unit {0}) old new
told_further old mid new first second =
    leaves_then (λ _ _. Unit {0}) (λ _ _. Unit {0}) (λ _ _. Unit {0}) old mid new first second (λ image cells left told now a b. tt)

-- a write was done behind other calls
pub written_after : (bytes : List ℕ) (slots : ℕ) (old mid new : Option (List ℕ)) → Leaves (λ _ _. Unit {0}) old mid → Leaves (IsWritten bytes slots) mid new
    → Leaves (IsWritten bytes slots) old new
written_after bytes slots old mid new some is =
    leaves_then (λ _ _. Unit {0}) (IsWritten bytes slots) (IsWritten bytes slots) old mid new some is
    (λ image cells left told now u w. record { says = w.says; volume = w.volume; spare = w.spare })

-- any fact of nothing holds
any_told : (told : Option (List ℕ)) → IfSome told (λ _. Unit {0})
any_told None = tt
any_told (Some image) = tt

-- an image with a free slot is told to have one
pub now_freed : (slot : ℕ) (old new : Option (List ℕ)) → Leaves (HasUsedSlots slot) old new → IfSome new (λ image. work_state (work_area image) ≡ Clean slot)
now_freed slot old new freed =
    told_after (λ _. Unit {0}) (HasUsedSlots slot) (λ image. work_state (work_area image) ≡ Clean slot) old new (any_told old) freed (λ image left u e. e)

-- the write is ready where its content was put into the spare of an image with a free slot
pub ready : (slot : ℕ) (bytes : List ℕ) (old mid new : Option (List ℕ)) → Leaves (HasUsedSlots slot) old mid → Leaves (IsPrepared bytes) mid new
    → IfSome new (IsReady slot bytes)
ready slot bytes old mid new freed prepared =
    told_after (λ image. work_state (work_area image) ≡ Clean slot) (IsPrepared bytes) (IsReady slot bytes) mid new
    (now_freed slot old mid freed) prepared
    (λ image left e p. record { says = ap work_state (work_before 65536 131072 image left (omega arith) p.outside) ∙ e; filled = p.filled })

module _ {F : Type 0} {moment : F → ℕ} {left_since : F → ℕ → List ℕ → Type 0} {holds : F → Option (List ℕ)} where
  -- calls that keep the content leave it, or a new one
  pub kept_or : (bytes : List ℕ) (old new : F) → Stays IsContentKept moment left_since holds old new
      → Stays (IsContentOr bytes) moment left_since holds old new
  kept_or bytes old new run =
      stays_weaken IsContentKept (IsContentOr bytes) old new run (λ image left told is. record { content = inl is.content; sound = is.sound })

  -- so do calls that keep it, and then others that leave it or the new one
  pub kept_then_or : (bytes : List ℕ) (old mid new : F) → Stays IsContentKept moment left_since holds old mid
      → Stays (IsContentOr bytes) moment left_since holds mid new → Stays (IsContentOr bytes) moment left_since holds old new
  kept_then_or bytes old mid new run next =
      stays_then IsContentKept IsContentKept (IsContentOr bytes) (IsContentOr bytes) old mid new run run.now next
      (λ image left told is. record { content = inl is.content; sound = is.sound })
      (λ image cells left told now first second. record {
        content = ⊎_elim (λ e. inl (e ∙ first.content)) inr second.content;
        sound = λ sound. second.sound (first.sound sound);
      })

  -- the opening of the spare gate takes the content that stands in the spare
  pub taking_moments : (slot : ℕ) (bytes : List ℕ) (old new : F) → length bytes ≡ 57344 → IfSome (holds old) (IsReady slot bytes)
      → Stays IsSpareTaken moment left_since holds old new → Stays (IsContentOr bytes) moment left_since holds old new
  taking_moments slot bytes old new size ready run =
      stays_weaken IsSpareTaken (IsContentOr bytes) old new run
      (λ image left told is.
      let r = told_at (IsReady slot bytes) (holds old) image ready told in
      record { content = ⊎_elim inl (λ e. inr (e ∙ volume_by bytes image size r.filled)) is.content; sound = is.sound })

  -- after it the new content stays
  pub taken_moments : (slot : ℕ) (bytes : List ℕ) (old mid new : F) → Stays (IsContentOr bytes) moment left_since holds old mid
      → IfSome (holds mid) (IsTaken slot bytes) → Stays IsContentKept moment left_since holds mid new
      → Stays (IsContentOr bytes) moment left_since holds old new
  taken_moments slot bytes old mid new run is next =
      stays_then (IsContentOr bytes) (IsContentOr bytes) IsContentKept (IsContentOr bytes) old mid new run run.now next (λ image left told is. is)
      (λ image cells left told now first second.
      let t = told_at (IsTaken slot bytes) (holds mid) cells is now in
      record {
        content = inr (second.content ∙ pending_content cells slot t.used t.says ∙ t.filled);
        sound = λ sound. second.sound (pending_sound cells slot t.says);
      })
