-- The moments of steps that change records alone, by what the volume is left as.
use Rattle.std.proofs.Common.{◌≡◌, ℕ, ◌+◌, ◌≤◌, List, length, Option, Some, None, IfSome, sym, ap, subst, ◌∙◌, arith}
use Rattle.flash_dev.specs.Moments.{Stays}
use Rattle.flash_dev.specs.Rules.{IsProgramLeft, Leaves, programmed}
use Rattle.flash_dev.proofs.Calls.{told_at}
use Rattle.flash_dev.proofs.Moments.{stays_none, stays_then, stays_weaken}
use Rattle.var_types.specs.Kept.{volume, work_area}
use Rattle.var_types.specs.Placed.{IsOutsideKept}
use Rattle.var_types.specs.WorkArea.{IsClean, work_state}
use Rattle.var_types.proofs.Parts.{outside_both, outside_none, work_behind}
use Rattle.nv_store.specs.Mirror.{IsMirrored}
use Rattle.nv_store.specs.StepsLeft.{IsStepLeft}
use Rattle.nv_store.proofs.Programs.{step_outside, volume_program, volume_programmed}

-- the work area stays where records alone change
pub same_work : (image left : List ℕ) → IsOutsideKept 100 57344 image left → work_area left ≡ work_area image
same_work image left is = work_behind 100 57344 image left (omega arith) is

module _ {F : Type 0} {moment : F → ℕ} {left_since : F → ℕ → List ℕ → Type 0} {holds : F → Option (List ℕ)} where
  -- no step
  pub step_none : (P : List ℕ → Type 0) (bytes : List ℕ) (at : F) → IfSome (holds at) (IsMirrored bytes) → P bytes
      → Stays (IsStepLeft P) moment left_since holds at at
  step_none P bytes at mirrored is =
      stays_none (IsStepLeft P) at
      (λ image told. record {
        outside = outside_none 100 57344 image;
        is = subst P (sym ((told_at (IsMirrored bytes) (holds at) image mirrored told).same)) is;
      })

  -- what steps leave follows from what they leave
  pub step_weaken : (P Q : List ℕ → Type 0) (old new : F) → Stays (IsStepLeft P) moment left_since holds old new → ((v : List ℕ) → P v → Q v)
      → Stays (IsStepLeft Q) moment left_since holds old new
  step_weaken P Q old new run more =
      stays_weaken (IsStepLeft P) (IsStepLeft Q) old new run (λ image left told is. record { outside = is.outside; is = more (volume left) is.is })

  -- steps, and then others
  pub step_then : (P Q R : List ℕ → Type 0) (old mid new : F) → Stays (IsStepLeft P) moment left_since holds old mid
      → Stays (IsStepLeft Q) moment left_since holds mid new → ((v : List ℕ) → P v → R v) → ((v : List ℕ) → Q v → R v)
      → Stays (IsStepLeft R) moment left_since holds old new
  step_then P Q R old mid new run next first second =
      stays_then (IsStepLeft P) (IsStepLeft P) (IsStepLeft Q) (IsStepLeft R) old mid new run run.now next
      (λ image left told is. record { outside = is.outside; is = first (volume left) is.is })
      (λ image cells left told now a b. record { outside = outside_both 100 57344 image cells left a.outside b.outside; is = second (volume left) b.is })

  -- a programming among the records
  pub program_steps : (at : ℕ) (piece bytes : List ℕ) (P : List ℕ → Type 0) (old new : F) → 100 ≤ at → at + length piece ≤ 57344
      → IfSome (holds old) (IsMirrored bytes) → ((v : List ℕ) → IsProgramLeft at piece bytes v → P v)
      → Stays (IsProgramLeft at piece) moment left_since holds old new → Stays (IsStepLeft P) moment left_since holds old new
  program_steps at piece bytes P old new low high mirrored more run =
      stays_weaken (IsProgramLeft at piece) (IsStepLeft P) old new run
      (λ image left told is. record {
        outside = step_outside at piece low high image left is;
        is = more (volume left)
            (subst (λ v. IsProgramLeft at piece v (volume left)) ((told_at (IsMirrored bytes) (holds old) image mirrored told).same)
            (volume_program at piece low high image left is));
      })

-- what is told after a programming among the records
pub programmed_told : (at : ℕ) (piece bytes next : List ℕ) (old new : Option (List ℕ)) → 100 ≤ at → at + length piece ≤ 57344
    → IfSome old (λ image. length image ≡ 131072) → IfSome old (IsMirrored bytes) → programmed at piece bytes ≡ next
    → Leaves (IsProgramLeft at piece) old new → Leaves (λ image left. left ≡ programmed at piece image) old new → IfSome new (IsMirrored next)
programmed_told at piece bytes next None new low high size mirrored same run is = subst (λ told. IfSome told (IsMirrored next)) (sym is) tt
programmed_told at piece bytes next (Some image) None low high size mirrored same run is = tt
programmed_told at piece bytes next (Some image) (Some left) low high size mirrored same run is = record {
  same = ap volume is ∙ volume_programmed at piece low high image size ∙ ap (programmed at piece) mirrored.same ∙ same;
  clean = subst (λ area. IsClean (work_state area)) (sym (same_work image left (step_outside at piece low high image left run))) mirrored.clean;
}
