-- A flash in memory that lists its steps, and its moments.
use Rattle.std.specs.Prelude.{◌≡◌, ◌⊎◌, ℕ, ◌+◌, ◌-◌, List, [], ◌∷◌, ◌++◌, length, take, drop, slice_get, Some, None}
use Rattle.flash_dev.specs.Moments.{Stays}
use Rattle.var_types.specs.Layout.{image_size}
use Rattle.svc_core.specs.declared.flash_step.FlashStep.{FlashStep}
use Rattle.svc_core.specs.FlashSteps.{IsStepLeft, StepsFit, after_step, after_steps}

-- a flash that lists its steps: its bytes when it last gave out its list, the steps since, and how many of its calls have failed (this project's
-- own)
pub record ListedState : Type 0 where
  pub first : List ℕ
  pub steps : List FlashStep
  pub faults : ℕ

-- its bytes now
abbrev pub bytes_of : ListedState → List ℕ
bytes_of flash = after_steps flash.steps flash.first

-- the same with one step more
abbrev pub listed : ListedState → FlashStep → ListedState
listed flash step = record flash { steps = flash.steps ++ step ∷ [] }

-- an image that a loss of power may leave before, within or behind some steps, which begin at an image (this project's own)
abbrev pub IsLeftIn : List FlashStep → List ℕ → List ℕ → Type 0
IsLeftIn [] image left = left ≡ image
IsLeftIn (step ∷ steps) image left = (left ≡ image) ⊎ (IsStepLeft step image left ⊎ IsLeftIn steps (after_step step image) left)

-- a mark of an image, a list that is too short for one: an offset and the byte there, or an offset behind the last byte (this project's own)
abbrev pub IsMark : List ℕ → List ℕ → Type 0
IsMark image (at ∷ []) = slice_get image at ≡ None
IsMark image (at ∷ byte ∷ []) = slice_get image at ≡ Some byte
IsMark image _ = ⊥

-- the present moment: behind moment 0 there is one before each step, and one behind the last
abbrev pub moment_of : ListedState → ℕ
moment_of flash = length flash.steps + 1

-- what a loss of power since a moment may have left. Since moment 0 the marks of the first image are told too: by them it is known what the list
-- begins at, of which a contract over any flash says nothing else (this project's own)
abbrev pub IsLeftSince : ListedState → ℕ → List ℕ → Type 0
IsLeftSince flash t left =
    IsLeftIn (drop (t - 1) flash.steps) (after_steps (take (t - 1) flash.steps) flash.first) left ⊎ ((t ≡ 0) × IsMark flash.first left)

-- the moments of a call of such a flash
abbrev pub StaysListed : (List ℕ → List ℕ → Type 0) → ListedState → ListedState → Type 0
StaysListed IsLeft = Stays IsLeft moment_of IsLeftSince (λ flash. Some (bytes_of flash))

-- what such a flash keeps of its fields: it has an image's bytes, which the steps listed made of the first ones, each within the image
pub record IsListed (bytes first : List ℕ) (steps : List FlashStep) : Type 0 where
  pub size : length bytes ≡ image_size
  pub is : bytes ≡ after_steps steps first
  pub fit : StepsFit steps

-- the flash gave out its list, whose steps fit an image, and begins another
pub record GivesList (old : ListedState) (given : List FlashStep) (new : ListedState) : Type 0 where
  pub list : given ≡ old.steps
  pub fit : StepsFit given
  pub begun : new ≡ record { first = bytes_of old; steps = []; faults = old.faults }
