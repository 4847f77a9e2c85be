-- The flash step that comes next, and what a loss of power in it leaves.
use Rattle.std.proofs.Common.{◌≡◌, ◌≢◌, ℕ, zero, suc, ◌-◌, ◌<◌, ◌≤◌, Bool, true, false, List, [], ◌∷◌, length, Option, Some, None, refl, sym, ap, subst, ◌∙◌, arith}
use Rattle.std.proofs.lemmas.Bool.{eqb-false, eqb-true}
use Rattle.std.specs.Prelude.{◌==◌, slice_get, if◌then◌else◌, IfSome}
use Rattle.flash_dev.specs.declared.fault_plan.Torn.{Torn}
use Rattle.var_types.specs.State.{start}
use Rattle.svc_core.proofs.Clears.{step_fits}
use Rattle.svc_core.specs.declared.flash_step.FlashStep.{FlashStep}
use Rattle.svc_core.specs.declared.machine.Machine.{Machine}
use Rattle.svc_core.specs.declared.point.Point.{Point}
use Rattle.svc_core.specs.FlashSteps.{StepFits}
use Rattle.svc_core.specs.Invariant.{IsConsistent}
use Rattle.svc_core.specs.Machine.{IsPowerLost, NextFits, world_of}
use Rattle.svc_core.specs.Power.{IsLeftBy, at_writing, step_at, torn_by}
use Rattle.svc_core.specs.Progress.{point_at}
use Rattle.svc_core.specs.World.{Processor}
use Rattle.svc_core.specs.Writer.{Opening, Writer}

-- the next step, of the writer's lock and the processors
abbrev next_of : ℕ → List Processor → Option FlashStep
next_of desk ps = at_writing step_at (if desk == 0 then None else slice_get ps (desk - 1))

free_by : (desk : ℕ) (ps : List Processor) (b : Bool) → (desk == 0) ≡ b → desk ≡ 0
    → at_writing step_at (if b then None else slice_get ps (desk - 1)) ≡ None
free_by desk ps true e free = refl
free_by desk ps false e free = absurd (eqb-false desk 0 e free)

busy_by : (desk : ℕ) (ps : List Processor) (b : Bool) → (desk == 0) ≡ b → desk ≢ 0
    → at_writing step_at (if b then None else slice_get ps (desk - 1)) ≡ at_writing step_at (slice_get ps (desk - 1))
busy_by desk ps true e some = absurd (some (eqb-true desk 0 e))
busy_by desk ps false e some = refl

next_free : (desk : ℕ) (ps : List Processor) → desk ≡ 0 → next_of desk ps ≡ None
next_free desk ps free = free_by desk ps (desk == 0) refl free

at_none : (ps : List Processor) (n : ℕ) → length ps ≤ n → at_writing step_at (slice_get ps n) ≡ None
at_none [] n h = refl
at_none (a ∷ ps) zero h = absurd (omega arith)
at_none (a ∷ ps) (suc n) h = at_none ps n (omega arith)

at_point : (ps : List Processor) (n : ℕ) (x : Point) → point_at ps n ≡ Some x → at_writing step_at (slice_get ps n) ≡ step_at x
at_point [] n x h = cc
at_point (a ∷ ps) zero x h = let same : a.point ≡ x = cc in ap step_at same
at_point (a ∷ ps) (suc n) x h = at_point ps n x h

next_beyond : (desk : ℕ) (ps : List Processor) → length ps < desk → next_of desk ps ≡ None
next_beyond desk ps h =
    busy_by desk ps (desk == 0) refl (λ free. absurd (omega (arith, free))) ∙ at_none ps (desk - 1) (let far : length ps ≤ desk - 1 = omega (arith, h) in far)

next_at : (desk : ℕ) (ps : List Processor) (x : Point) → desk ≢ 0 → point_at ps (desk - 1) ≡ Some x → next_of desk ps ≡ step_at x
next_at desk ps x some h = busy_by desk ps (desk == 0) refl some ∙ at_point ps (desk - 1) x h

module _ (m : Machine) (torn : Torn) where
  -- a step is torn
  pub torn_as : (left : List ℕ) (step : Option FlashStep) → next_of m.writer_lock m.progress.processors ≡ step → left ≡ torn_by torn step m.flash
      → IsLeftBy step m.flash left → IsPowerLost m torn (record m { flash = left })
  torn_as left step is torn_is allowed = (
    refl,
    λ opening own. (
      torn_is ∙ ap (λ (o : Option FlashStep). torn_by torn o m.flash) (sym is),
      subst (λ (o : Option FlashStep). IsLeftBy o m.flash left) (sym is) allowed,
    ),
  )

  pub nobody : m.writer_lock ≡ 0 → IsPowerLost m torn m
  nobody free = torn_as m.flash None (next_free m.writer_lock m.progress.processors free) refl refl

  pub beyond : length m.progress.processors < m.writer_lock → IsPowerLost m torn m
  beyond far = torn_as m.flash None (next_beyond m.writer_lock m.progress.processors far) refl refl

  pub no_step : (x : Point) → m.writer_lock ≢ 0 → point_at m.progress.processors (m.writer_lock - 1) ≡ Some x → step_at x ≡ None → IsPowerLost m torn m
  no_step x some at none = torn_as m.flash None (next_at m.writer_lock m.progress.processors x some at ∙ none) refl refl

  pub one_step : (x : Point) (step : FlashStep) (left : List ℕ) → m.writer_lock ≢ 0 → point_at m.progress.processors (m.writer_lock - 1) ≡ Some x
      → step_at x ≡ Some step → left ≡ torn_by torn (Some step) m.flash → IsLeftBy (Some step) m.flash left
      → IsPowerLost m torn (record m { flash = left })
  one_step x step left some at is = torn_as left (Some step) (next_at m.writer_lock m.progress.processors x some at ∙ is)

  pub step_within : NextFits m → (x : Point) (step : FlashStep) → m.writer_lock ≢ 0
      → point_at m.progress.processors (m.writer_lock - 1) ≡ Some x → step_at x ≡ Some step → StepFits step
  step_within fits x step some at is =
      let opening : Opening = record { start = start [] 0; stores = m.stores } in
      let own : Writer = record { log = []; stores = m.stores; image = [] } in
      subst (λ (o : Option FlashStep). IfSome o StepFits) (next_at m.writer_lock m.progress.processors x some at ∙ is) (fits opening own)

-- the next step lies within the image
pub next_fits : (opening : Opening) (own : Writer) (m : Machine) → IsConsistent (world_of opening own m) → NextFits m
next_fits opening own m k = λ o x. by (m.writer_lock == 0)
  where
    there : (p : ℕ) (at : Option Processor) → slice_get m.progress.processors p ≡ at → IfSome (at_writing step_at at) StepFits
    there p None e = tt
    there p (Some a) e = step_fits opening own m p a k e a.point refl

    by : (b : Bool) → IfSome (at_writing step_at (if b then None else slice_get m.progress.processors (m.writer_lock - 1))) StepFits
    by true = tt
    by false = there (m.writer_lock - 1) (slice_get m.progress.processors (m.writer_lock - 1)) refl
