-- Laws of the work area, and of what an image keeps.
use Rattle.std.specs.Prelude.{◌≡◌, ℕ, ◌<◌, ◌≤◌, true, List, length}
use Rattle.var_types.specs.declared.work_state.WorkState.TheVariants.{Clean, Pending}
use Rattle.var_types.specs.Kept.{IsContentKept, content, spare, volume}
use Rattle.var_types.specs.Placed.{IsOutsideKept}
use Rattle.var_types.specs.Layout.{volume_size, work_area_offset, work_area_size}
use Rattle.var_types.specs.WorkArea.{clean_area, is_blank, pending_area, work_state}

-- the work area of which so many slots are used says so
abbrev pub CleanAreasAreClean : Type 0
CleanAreasAreClean = (slots : ℕ) → slots ≤ 255 → work_state (clean_area slots) ≡ Clean slots

-- no other work area says so
abbrev pub NoOthersAreClean : Type 0
NoOthersAreClean =
    (bytes : List ℕ) (slots : ℕ) → length bytes ≡ work_area_size → work_state bytes ≡ Clean slots → (slots ≤ 255) × (bytes ≡ clean_area slots)

-- the work area in which the write of a slot is pending says so
abbrev pub PendingAreasArePending : Type 0
PendingAreasArePending = (slot : ℕ) → slot < 255 → work_state (pending_area slot) ≡ Pending slot

-- no other work area says so
abbrev pub NoOthersArePending : Type 0
NoOthersArePending =
    (bytes : List ℕ) (slot : ℕ) → length bytes ≡ work_area_size → work_state bytes ≡ Pending slot → (slot < 255) × (bytes ≡ pending_area slot)

-- the bytes between the volume and the work area never matter
abbrev pub GapsNeverMatter : Type 0
GapsNeverMatter = (image left : List ℕ) → IsOutsideKept volume_size work_area_offset image left → IsContentKept image left

-- with a blank spare nothing is pending, whatever the work area holds
abbrev pub BlankSparesHoldNothing : Type 0
BlankSparesHoldNothing = (image : List ℕ) → is_blank (spare image) ≡ true → content image ≡ volume image
