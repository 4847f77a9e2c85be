-- The steps of the flash: what each does, and what a loss of power in it leaves.
use Rattle.std.specs.Prelude.{ℕ, ◌+◌, ◌*◌, ◌≤◌, List, [], ◌∷◌, length}
use Rattle.flash_dev.specs.declared.fault_plan.Torn.{Torn}
use Rattle.flash_dev.specs.MemFlash.{torn_erase, torn_program}
use Rattle.flash_dev.specs.Rules.{IsEraseLeft, IsProgramLeft, block_filled, programmed}
use Rattle.var_types.specs.Layout.{block_size, image_size}
use Rattle.svc_core.specs.declared.flash_step.FlashStep.{FlashStep}
use Rattle.svc_core.specs.declared.flash_step.FlashStep.TheVariants.{Program, Erase}

-- an image after a step
abbrev pub after_step : FlashStep → List ℕ → List ℕ
after_step (Program at bytes) image = programmed at bytes image
after_step (Erase block) image = block_filled block 0xFF image

-- an image after steps, one after the other
abbrev pub after_steps : List FlashStep → List ℕ → List ℕ
after_steps [] image = image
after_steps (step ∷ steps) image = after_steps steps (after_step step image)

-- an image that a loss of power in a step may leave, by the flash's rules
abbrev pub IsStepLeft : FlashStep → List ℕ → List ℕ → Type 0
IsStepLeft (Program at bytes) image left = IsProgramLeft at bytes image left
IsStepLeft (Erase block) image left = IsEraseLeft block image left

-- what a loss of power in a step leaves where it is torn this way: nothing of its effect, half of it, or all of it (this project's own)
abbrev pub torn_step : Torn → FlashStep → List ℕ → List ℕ
torn_step torn (Program at bytes) image = torn_program torn at bytes image
torn_step torn (Erase block) image = torn_erase torn block image

-- a step lies within an image
abbrev pub StepFits : FlashStep → Type 0
StepFits (Program at bytes) = at + length bytes ≤ image_size
StepFits (Erase block) = block_size * block + block_size ≤ image_size

-- steps lie within an image
abbrev pub StepsFit : List FlashStep → Type 0
StepsFit [] = Unit {0}
StepsFit (step ∷ steps) = StepFits step × StepsFit steps

-- each image that steps may leave at some moment has a property: the image before each of them, what a loss of power in it may leave, and the
-- image behind the last (this project's own)
abbrev pub Moments : (List ℕ → Type 0) → List ℕ → List FlashStep → Type 0
Moments P image [] = P image
Moments P image (step ∷ steps) = P image × ((left : List ℕ) → IsStepLeft step image left → P left) × Moments P (after_step step image) steps
