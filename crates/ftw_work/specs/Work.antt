-- What the steps of a work area leave.
use Rattle.std.specs.Prelude.{◌≡◌, ℕ, List}
use Rattle.var_types.specs.declared.work_state.WorkState.{WorkState}
use Rattle.var_types.specs.Kept.{IsContentOr, spare_volume, work_area}
use Rattle.var_types.specs.Placed.{IsOutsideKept}
use Rattle.var_types.specs.Layout.{spare_offset, work_area_offset}
use Rattle.var_types.specs.WorkArea.{work_state}

-- an image whose work area says this, and all of whose other bytes are those of another (this project's own)
pub record IsWorkLeft (state : WorkState) (image left : List ℕ) : Type 0 where
  pub outside : IsOutsideKept work_area_offset spare_offset image left
  pub says : work_state (work_area left) ≡ state

-- an image that keeps the content of another or has that of its spare, and is no foreign work unless the other is (this project's own)
abbrev pub IsSpareTaken : List ℕ → List ℕ → Type 0
IsSpareTaken image left = IsContentOr (spare_volume image) image left
