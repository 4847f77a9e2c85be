-- What a loss of power leaves.
use Rattle.std.specs.Prelude.{◌≡◌, ◌⊎◌, ℕ, ◌+◌, ◌-◌, ◌==◌, ◌≤◌, List, [], ◌∷◌, ◌++◌, length, slice_get, All, if◌then◌else◌, Option, Some, None, IfSome}
use Rattle.flash_dev.specs.declared.fault_plan.Torn.{Torn}
use Rattle.var_trace.specs.declared.change.Change.{Change}
use Rattle.var_types.specs.declared.answered.Answered.{Answered}
use Rattle.var_types.specs.declared.call.Call.{Call}
use Rattle.var_types.specs.Kept.{kept}
use Rattle.var_types.specs.Session.{place_behind}
use Rattle.svc_core.specs.declared.flash_step.FlashStep.{FlashStep}
use Rattle.svc_core.specs.declared.point.Point.{Point}
use Rattle.svc_core.specs.declared.point.Point.TheVariants.{Write}
use Rattle.svc_core.specs.FlashSteps.{IsStepLeft, torn_step}
use Rattle.svc_core.specs.World.{Processor, World}
use Rattle.svc_core.specs.Writer.{kept_after}

-- the flash step that a point is before, and the change that is planned there
abbrev pub step_at : Point → Option FlashStep
step_at (Write place reply (step ∷ steps) change) = Some step
step_at _ = None

abbrev pub planned_at : Point → Option Change
planned_at (Write place reply steps change) = Some change
planned_at _ = None

-- where the processor stands that has the writer's lock, if one has it
abbrev pub writing : World → Option Processor
writing w = if w.writer_lock == 0 then None else slice_get w.processors (w.writer_lock - 1)

abbrev pub at_writing : {X : Type 0} → (Point → Option X) → Option Processor → Option X
at_writing f None = None
at_writing f (Some a) = f a.point

-- the flash step that comes next, and the planned change
abbrev pub next_step : World → Option FlashStep
next_step w = at_writing step_at (writing w)

abbrev pub planned : World → Option Change
planned w = at_writing planned_at (writing w)

-- an image that a loss of power may leave now: one that the next flash step may leave, or else the flash as it is
abbrev pub IsLeftBy : Option FlashStep → List ℕ → List ℕ → Type 0
IsLeftBy None flash left = left ≡ flash
IsLeftBy (Some step) flash left = IsStepLeft step flash left

abbrev pub IsLeft : World → List ℕ → Type 0
IsLeft w left = IsLeftBy (next_step w) w.writer.flash left

-- the image that a loss of power leaves where the next flash step is torn this way
abbrev pub torn_by : Torn → Option FlashStep → List ℕ → List ℕ
torn_by torn None flash = flash
torn_by torn (Some step) flash = torn_step torn step flash

-- the world behind a loss of power that leaves this image
abbrev pub world_left : World → List ℕ → World
world_left w left = record w { writer = record w.writer { flash = left } }

-- an image keeps the non-volatile variables of the history so far, or with the one planned change
abbrev pub KeepsBy : Option Change → World → List ℕ → Type 0
KeepsBy None w left = kept left ≡ kept_after w.opening w.writer.log (length w.writer.log)
KeepsBy (Some change) w left =
    (kept left ≡ kept_after w.opening w.writer.log (length w.writer.log))
    ⊎ (kept left ≡ kept_after w.opening (w.writer.log ++ change ∷ []) (length w.writer.log + 1))

-- a change is that of a processor's first call without an answer, and the next one of the history (this project's own)
pub record IsUnanswered (w : World) (change : Change) : Type 0 where
  pub caller : Processor
  pub there : slice_get w.processors change.entry.processor ≡ Some caller
  pub later : List Call
  pub calls : caller.calls ≡ change.entry.call ∷ later
  pub index : change.entry.index ≡ length caller.answered
  pub number : change.entry.number ≡ length w.writer.log

-- what is true of an image that a loss of power leaves: it keeps the history's non-volatile variables, or with the planned change, which is a call's
-- that has no answer; and the history has every change that was answered, and every one below a place that was given to a caller (this project's own)
pub record Keeps (w : World) (left : List ℕ) : Type 0 where
  pub kept : KeepsBy (planned w) w left
  pub unanswered : IfSome (planned w) (IsUnanswered w)
  pub seen : (p : ℕ) (a : Processor) → slice_get w.processors p ≡ Some a → All (λ (x : Answered). place_behind x ≤ length w.writer.log) a.answered
