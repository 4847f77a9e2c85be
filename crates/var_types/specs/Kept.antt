-- What an image of the flash keeps while there is no power.
use Rattle.std.specs.Prelude.{◌≡◌, ◌⊎◌, ℕ, Bool, true, false, List, take, drop}
use Rattle.var_types.specs.declared.key.Key.{Key}
use Rattle.var_types.specs.declared.variable.Variable.{Variable}
use Rattle.var_types.specs.declared.work_state.WorkState.{WorkState}
use Rattle.var_types.specs.declared.work_state.WorkState.TheVariants.{Clean, Pending, Unclean}
use Rattle.var_types.specs.Layout.{headers_size, spare_offset, volume_size, work_area_offset, work_area_size}
use Rattle.var_types.specs.Record.{Authenticated}
use Rattle.var_types.specs.Region.{Region, region_map}
use Rattle.var_types.specs.WorkArea.{is_blank, work_state}

-- the parts of an image: its variable volume (OVMF's variable stores of 128 KiB), its work area and its spare (this project's own), and what of
-- the spare is a volume's
unfoldable pub volume : List ℕ → List ℕ
volume image = take volume_size image

unfoldable pub work_area : List ℕ → List ℕ
work_area image = take work_area_size (drop work_area_offset image)

unfoldable pub spare : List ℕ → List ℕ
spare image = drop spare_offset image

unfoldable pub spare_volume : List ℕ → List ℕ
spare_volume image = take volume_size (spare image)

-- the volume or the spare's, by whether the spare is blank and what the work area says: the spare's where a write is pending (this project's
-- own)
abbrev pub chosen_part : Bool → WorkState → List ℕ → List ℕ → List ℕ
chosen_part true state of_volume of_spare = of_volume
chosen_part false (Pending slot) of_volume of_spare = of_spare
chosen_part false (Clean slots) of_volume of_spare = of_volume
chosen_part false Unclean of_volume of_spare = of_volume

-- the part of an image that holds its non-volatile variables (this project's own)
unfoldable pub content : List ℕ → List ℕ
content image = chosen_part (is_blank (spare image)) (work_state (work_area image)) (volume image) (spare_volume image)

-- the region of that part: authenticated records behind the headers of volume and store (PI 1.8 volume 3, 3.2.1; EDK II,
-- VARIABLE_STORE_HEADER)
abbrev pub content_region : List ℕ → Region
content_region image = record { form = Authenticated; bytes = content image; first = headers_size; non_volatile = true }

-- the non-volatile variables that an image keeps, in key order
unfoldable pub kept : List ℕ → List (Key × Variable)
kept image = region_map (content_region image)

-- an image of foreign work: its spare is used, and its work area isn't one of this program's, so that it is not known whether a write is pending
-- (this project's own)
abbrev pub IsForeign : List ℕ → Type 0
IsForeign image = (is_blank (spare image) ≡ false) × (work_state (work_area image) ≡ Unclean)

-- an image that is no foreign work (this project's own)
abbrev pub IsSound : List ℕ → Type 0
IsSound image = IsForeign image → ⊥

-- an image that keeps the content of another, and is no foreign work unless the other is (this project's own)
pub record IsContentKept (image left : List ℕ) : Type 0 where
  pub content : content left ≡ content image
  pub sound : IsSound image → IsSound left

-- an image that keeps the content of another or has a new one, and is no foreign work unless the other is (this project's own)
pub record IsContentOr (new image left : List ℕ) : Type 0 where
  pub content : (content left ≡ content image) ⊎ (content left ≡ new)
  pub sound : IsSound image → IsSound left
