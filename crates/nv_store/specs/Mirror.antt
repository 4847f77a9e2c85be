-- What a store's flash tells, beside its mirror of the volume and what it holds of a change that failed.
use Rattle.std.specs.Prelude.{◌≡◌, ◌⊎◌, ℕ, ◌≤◌, Bool, true, false, List, length, take, Option, Some, None, IsOk, IfSome}
use Rattle.flash_dev.specs.Geometry.{geometry_of}
use Rattle.nv_store.specs.Tidy.{IsTidy}
use Rattle.var_types.specs.declared.store.Store.TheVariants.{NonVolatile}
use Rattle.var_types.specs.declared.work_state.WorkState.TheVariants.{Clean}
use Rattle.var_types.specs.Kept.{IsSound, content, kept, volume, work_area}
use Rattle.var_types.specs.Layout.{headers_size, image_size, volume_size}
use Rattle.var_types.specs.Stores.{map_in, store_region}
use Rattle.var_types.specs.WorkArea.{IsClean, work_state}

-- an image whose volume is the mirror byte for byte, and in which no write is pending (this project's own)
pub record IsMirrored (mirror image : List ℕ) : Type 0 where
  pub same : volume image ≡ mirror
  pub clean : IsClean (work_state (work_area image))

-- the same, with so many used slots (this project's own)
pub record IsMirroredAt (mirror : List ℕ) (slots : ℕ) (image : List ℕ) : Type 0 where
  pub same : volume image ≡ mirror
  pub says : work_state (work_area image) ≡ Clean slots

-- an image after a change that failed: it keeps the mirror's variables, or those of the bytes that the change was to leave; its headers are the
-- mirror's, and it is no foreign work (this project's own)
pub record IsInDoubt (mirror after image : List ℕ) : Type 0 where
  pub kept : (kept image ≡ map_in NonVolatile mirror) ⊎ (kept image ≡ map_in NonVolatile after)
  pub headers : take headers_size (content image) ≡ take headers_size mirror
  pub sound : IsSound image

-- what is told of an image, without a change in doubt or with one (this project's own)
abbrev pub IsTold : List ℕ → Option (List ℕ) → List ℕ → Type 0
IsTold mirror None image = IsMirrored mirror image
IsTold mirror (Some after) image = IsInDoubt mirror after image

-- a store: a flash of an image's length, and a mirror of its volume, whose headers are accepted, and in which nothing is left over of writes that
-- were interrupted; and what the flash tells beside it (this project's own)
pub record IsStore (size : ℕ) (told : Option (List ℕ)) (mirror : List ℕ) (doubt : Option (List ℕ)) : Type 0 where
  pub flash : size ≡ image_size
  pub len : length mirror ≡ volume_size
  pub headers : IsOk (geometry_of (take headers_size mirror))
  pub tidy : IsTidy (store_region NonVolatile mirror)
  pub image : IfSome told (IsTold mirror doubt)

-- the bytes that a change in doubt was to leave, where one is in doubt (this project's own)
abbrev pub doubt_of : Bool → List ℕ → Option (List ℕ)
doubt_of false after = None
doubt_of true after = Some after

-- an image without a change in doubt has so many used slots
abbrev pub HasSlots : ℕ → Option (List ℕ) → List ℕ → Type 0
HasSlots slots None image = work_state (work_area image) ≡ Clean slots
HasSlots slots (Some after) image = Unit {0}

-- what a store keeps of its fields: it is a store, with a scratch of a volume's size, and it knows how many slots are used
pub record IsHeld (size : ℕ) (told : Option (List ℕ)) (mirror spare_bytes : List ℕ) (used_slots : ℕ) (doubt : Option (List ℕ)) : Type 0 where
  pub store : IsStore size told mirror doubt
  pub scratch : length spare_bytes ≡ volume_size
  pub slots : used_slots ≤ 255
  pub used : IfSome told (HasSlots used_slots doubt)
