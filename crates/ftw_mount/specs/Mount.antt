-- What is read of an image, and what a mount and a write leave.
use Rattle.std.specs.Prelude.{◌≡◌, ◌⊎◌, ◌==◌, ℕ, false, List, ◌++◌, length, take, replicate, nat_lt, if◌then◌else◌, Result, Err}
use Rattle.flash_dev.specs.declared.geometry.Geometry.{Geometry}
use Rattle.flash_dev.specs.declared.image_fault.ImageFault.{ImageFault}
use Rattle.flash_dev.specs.declared.image_fault.ImageFault.TheVariants.{ImageSize}
use Rattle.flash_dev.specs.Geometry.{geometry_of}
use Rattle.ftw_mount.specs.declared.kept.Kept.{Kept}
use Rattle.var_types.specs.declared.work_state.WorkState.TheVariants.{Clean, Pending}
use Rattle.var_types.specs.Kept.{IsContentKept, IsForeign, content, spare, spare_volume, volume, work_area}
use Rattle.var_types.specs.Placed.{IsOutsideKept}
use Rattle.var_types.specs.Layout.{headers_size, image_size, spare_offset}
use Rattle.var_types.specs.WorkArea.{IsClean, is_blank, work_state}

-- what is said of an image's work area and spare (this project's own)
pub record Describes (kept : Kept) (image : List ℕ) : Type 0 where
  pub state : kept.state ≡ work_state (work_area image)
  pub blank : kept.blank ≡ is_blank (spare image)

-- an image at whose mount nothing is to be done, or nothing may be: no write is pending in a work area that is made, or it is foreign work
-- (this project's own)
abbrev pub IsIdle : List ℕ → Type 0
IsIdle image = IsClean (work_state (work_area image)) ⊎ IsForeign image

-- an image that a mount leaves: it keeps the content, and an idle one stays as it is (this project's own)
pub record IsMountLeft (image left : List ℕ) : Type 0 where
  pub kept : IsContentKept image left
  pub idle : IsIdle image → left ≡ image

-- an image in which no write is pending, and so many slots are used (this project's own)
abbrev pub HasUsedSlots : ℕ → List ℕ → List ℕ → Type 0
HasUsedSlots slots image left = work_state (work_area left) ≡ Clean slots

-- an image in which the write of a slot is pending, whose content stands in the spare (this project's own)
pub record IsWritePending (slot : ℕ) (image : List ℕ) : Type 0 where
  pub says : work_state (work_area image) ≡ Pending slot
  pub used : is_blank (spare image) ≡ false

-- the slot that the next write takes where so many are used: the first, where all are (this project's own)
abbrev pub next_slot : ℕ → ℕ
next_slot slots = if nat_lt slots 255 then slots else 0

-- an image whose spare has a volume's bytes at its front, and is erased behind them; all of its other bytes are those of another (this
-- project's own)
pub record IsPrepared (bytes image left : List ℕ) : Type 0 where
  pub outside : IsOutsideKept spare_offset image_size image left
  pub filled : spare left ≡ bytes ++ replicate 8192 0xFF

-- an image whose spare has a volume's bytes, which its next slot is to make those of the volume (this project's own)
pub record IsReady (slot : ℕ) (bytes image : List ℕ) : Type 0 where
  pub says : work_state (work_area image) ≡ Clean slot
  pub filled : spare image ≡ bytes ++ replicate 8192 0xFF

-- an image whose volume has these bytes, and its spare too, and of whose slots so many are used (this project's own)
pub record IsWritten (bytes : List ℕ) (slots : ℕ) (image left : List ℕ) : Type 0 where
  pub says : work_state (work_area left) ≡ Clean slots
  pub volume : volume left ≡ bytes
  pub spare : spare_volume left ≡ bytes

-- the geometry of what an image keeps, or the first refusal, that of its length before all others (this project's own)
unfoldable pub content_geometry : List ℕ → Result Geometry ImageFault
content_geometry image =
    if length image == image_size then geometry_of (take headers_size (content image)) else Err (ImageSize (length image) image_size)
