-- When the store is opened over an image, and what that leaves.
use Rattle.std.specs.Prelude.{◌≡◌, ◌≢◌, ℕ, ◌≤◌, Bool, true, false, List, take, Option, Some, None, Result, Ok, Err}
use Rattle.flash_dev.specs.declared.geometry.Geometry.{Geometry}
use Rattle.flash_dev.specs.declared.image_fault.ImageFault.{ImageFault}
use Rattle.ftw_mount.specs.Mount.{content_geometry}
use Rattle.nv_store.specs.declared.load_fault.LoadWhy.{LoadWhy}
use Rattle.nv_store.specs.declared.load_fault.LoadWhy.TheVariants.{Image, ForeignWork, Device, OutOfMemory}
use Rattle.outside.specs.Faults.{HasRisen}
use Rattle.nv_store.specs.Tidy.{IsTidy}
use Rattle.var_types.specs.declared.store.Store.TheVariants.{NonVolatile}
use Rattle.var_types.specs.declared.work_state.WorkState.{WorkState}
use Rattle.var_types.specs.declared.work_state.WorkState.TheVariants.{Clean, Pending, Unclean}
use Rattle.var_types.specs.Kept.{IsSound, content, kept, spare, volume, work_area}
use Rattle.var_types.specs.Layout.{headers_size}
use Rattle.var_types.specs.Stores.{store_region}
use Rattle.var_types.specs.WorkArea.{IsClean, is_blank, work_state}

-- the refusal by the headers of what counts, else by the spare and the work area: it is used, and that isn't one of this program's (this
-- project's own)
abbrev pub refusal_by : Result Geometry ImageFault → Bool → WorkState → Option LoadWhy
refusal_by (Err fault) blank state = Some (Image fault)
refusal_by (Ok geometry) true state = None
refusal_by (Ok geometry) false Unclean = Some ForeignWork
refusal_by (Ok geometry) false (Clean slots) = None
refusal_by (Ok geometry) false (Pending slot) = None

-- why an image is refused: its length, the headers of what counts in it, or that it is foreign work, in this order (this project's own)
unfoldable pub refusal_of : List ℕ → Option LoadWhy
refusal_of image = refusal_by (content_geometry image) (is_blank (spare image)) (work_state (work_area image))

-- an answer that the image decides: neither a failed call nor want of memory (this project's own)
abbrev pub IsByImage : Option LoadWhy → Type 0
IsByImage None = Unit {0}
IsByImage (Some (Image fault)) = Unit {0}
IsByImage (Some ForeignWork) = Unit {0}
IsByImage (Some Device) = ⊥
IsByImage (Some OutOfMemory) = ⊥

-- an image in order: no write is pending, and nothing is left over of writes that were interrupted (this project's own)
pub record IsInOrder (image : List ℕ) : Type 0 where
  pub clean : IsClean (work_state (work_area image))
  pub tidy : IsTidy (store_region NonVolatile (volume image))

-- an image that a power loss within an opening may leave: its variables and its headers are as they were, it is no foreign work unless it was,
-- and one that is in order stays as it is (this project's own)
pub record IsOpeningLeft (image left : List ℕ) : Type 0 where
  pub kept : kept left ≡ kept image
  pub headers : take headers_size (content left) ≡ take headers_size (content image)
  pub sound : IsSound image → IsSound left
  pub idle : IsInOrder image → left ≡ image

-- the cause of an answer: a failed call exactly where the count of failed calls rose (this project's own)
pub record HasLoadCause (before now : ℕ) (why : Option LoadWhy) : Type 0 where
  pub done : why ≢ Some Device → now ≡ before
  pub failed : why ≡ Some Device → HasRisen before now
  pub never_falls : before ≤ now
