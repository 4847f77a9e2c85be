-- What a loss of power leaves of a world.
use Rattle.std.proofs.Common.{◌≡◌, ◌≢◌, ℕ, zero, suc, ◌+◌, ◌-◌, ◌<◌, ◌==◌, Bool, true, false, List, [], ◌∷◌, length, Option, Some, None, refl, sym, ap, subst, ◌∙◌, arith}
use Rattle.std.proofs.lemmas.Bool.{eqb-false, eqb-true}
use Rattle.std.specs.Prelude.{slice_get, if◌then◌else◌, IfSome}
use Rattle.var_trace.specs.declared.change.Change.{Change}
use Rattle.var_types.specs.History.{Entry}
use Rattle.var_types.specs.Kept.{kept}
use Rattle.svc_core.proofs.Frames.{below_more}
use Rattle.svc_core.specs.declared.point.Point.{Point}
use Rattle.svc_core.specs.declared.point.Point.TheVariants.{Write}
use Rattle.svc_core.specs.Invariant.{AtStage, IsConsistent}
use Rattle.svc_core.specs.Power.{IsLeft, IsLeftBy, IsUnanswered, Keeps, KeepsBy, at_writing, planned, planned_at, step_at, world_left}
use Rattle.svc_core.specs.Stages.{Stage, away, calm, counted, plans, ahead, stage}
use Rattle.svc_core.specs.World.{Processor, World}
use Rattle.svc_core.specs.Writer.{kept_after}

-- what is within is there
pub some_there : (xs : List Processor) (i : ℕ) → i < length xs → (x : Processor) × (slice_get xs i ≡ Some x)
some_there [] i h = absurd (omega arith)
some_there (x ∷ xs) zero h = (x, refl)
some_there (x ∷ xs) (suc i) h = some_there xs i (omega arith)

module _ (w : World) (left : List ℕ) (k : IsConsistent w) where
  -- the history's non-volatile variables are kept
  abbrev KeepsHistory : Type 0
  KeepsHistory = kept left ≡ kept_after w.opening w.writer.log (length w.writer.log)

  -- no change is planned at a stage
  abbrev IsIdle : Stage → Type 0
  IsIdle (plans place reply steps change) = ⊥
  IsIdle _ = Unit {0}

  module _ (q : ℕ) (a : Processor) (desk : w.writer_lock ≡ q + 1) where
    abbrev AtIts : Stage → Type 0
    AtIts s = AtStage w.opening w.writer_lock w.writer.made w.writer.log w.writer.stores w.writer.flash w.writer.own q a.calls (length a.answered) s

    -- where none is planned, the flash keeps them, and stays
    idle_keeps : (s : Stage) → IsIdle s → AtIts s → left ≡ w.writer.flash → KeepsHistory
    idle_keeps away idle at same = absurd (at desk)
    idle_keeps calm idle at same = ap kept same ∙ at.1.1.keeps
    idle_keeps (counted place) idle at same = ap kept same ∙ at.1.1.keeps
    idle_keeps (plans place reply steps change) idle at same = absurd idle
    idle_keeps (ahead place) idle at same = ap kept same ∙ at.3.keeps

    -- whatever the next flash step may leave keeps them, or with the planned change
    point_keeps : (x : Point) → AtIts (stage x) → IsLeftBy (step_at x) w.writer.flash left → KeepsBy (planned_at x) w left
    point_keeps (Write place reply [] change) at same =
        subst (λ (image : List ℕ). KeepsBy (Some change) w image) (sym same) at.1.moments
    point_keeps (Write place reply (step ∷ steps) change) at may = at.1.moments.1 left may
    point_keeps x at same = idle_keeps (stage x) tt at same

    -- the change that is planned is that of its call
    point_unanswered : (x : Point) → slice_get w.processors q ≡ Some a → AtIts (stage x) → IfSome (planned_at x) (IsUnanswered w)
    point_unanswered (Write place reply steps change) there at =
        let entry = at.1.entry in
        record {
          caller = a;
          there = ap (λ (e : Entry). slice_get w.processors e.processor) entry ∙ there;
          later = at.1.later;
          calls = at.1.calls_are ∙ ap (λ (e : Entry). e.call ∷ at.1.later) (sym entry);
          index = ap (λ (e : Entry). e.index) entry;
          number = ap (λ (e : Entry). e.number) entry ∙ at.1.place_is ∙ sym at.1.none_ahead;
        }
    point_unanswered x there at = tt

  -- by whether the writer's lock is free
  by_desk : (b : Bool) → (w.writer_lock == 0) ≡ b → IsLeftBy (at_writing step_at (if b then None else slice_get w.processors (w.writer_lock - 1))) w.writer.flash left
      → KeepsBy (at_writing planned_at (if b then None else slice_get w.processors (w.writer_lock - 1))) w left
  by_desk true free same = let even = (k.rests (eqb-true w.writer_lock 0 free)).1 in ap kept same ∙ even.keeps
  by_desk false busy may = by_place (slice_get w.processors (w.writer_lock - 1)) refl may
    where
      some : w.writer_lock ≢ 0
      some = eqb-false w.writer_lock 0 busy

      by_place : (found : Option Processor) → slice_get w.processors (w.writer_lock - 1) ≡ found → IsLeftBy (at_writing step_at found) w.writer.flash left
          → KeepsBy (at_writing planned_at found) w left
      by_place None e may = let there = some_there w.processors (w.writer_lock - 1) (let h : w.writer_lock - 1 < length w.processors = omega (arith, k.bounds.all, k.bounds.desk_of, some) in h) in let lost : Some there.0 ≡ None = sym there.1 ∙ e in cc
      by_place (Some a) e may =
          let desk : w.writer_lock ≡ (w.writer_lock - 1) + 1 = omega (arith, some) in
          point_keeps (w.writer_lock - 1) a desk a.point (k.each (w.writer_lock - 1) a e).stages may

  -- what is planned is a call's without an answer
  planned_unanswered : (b : Bool) → (w.writer_lock == 0) ≡ b
      → IfSome (at_writing planned_at (if b then None else slice_get w.processors (w.writer_lock - 1))) (IsUnanswered w)
  planned_unanswered true free = tt
  planned_unanswered false busy = by_place (slice_get w.processors (w.writer_lock - 1)) refl
    where
      by_place : (found : Option Processor) → slice_get w.processors (w.writer_lock - 1) ≡ found → IfSome (at_writing planned_at found) (IsUnanswered w)
      by_place None e = tt
      by_place (Some a) e =
          let desk : w.writer_lock ≡ (w.writer_lock - 1) + 1 = omega (arith, eqb-false w.writer_lock 0 busy) in
          point_unanswered (w.writer_lock - 1) a desk a.point e (k.each (w.writer_lock - 1) a e).stages

  -- an image that a loss of power leaves
  pub keeps_left : IsLeft w left → Keeps w left
  keeps_left may = record {
    kept = by_desk (w.writer_lock == 0) refl may;
    unanswered = planned_unanswered (w.writer_lock == 0) refl;
    seen = λ p a there.
        below_more w.writer.made (length w.writer.log) a.answered k.history.made_in (k.each p a there).past.behind_made;
  }

-- what is true of an image stays true where it has become the flash
pub keeps_world : (w : World) (left : List ℕ) → Keeps w left → Keeps (world_left w left) left
keeps_world w left keeps = record { kept = by (planned w) keeps.kept; unanswered = unanswered (planned w) keeps.unanswered; seen = keeps.seen }
  where
    unanswered : (change : Option Change) → IfSome change (IsUnanswered w) → IfSome change (IsUnanswered (world_left w left))
    unanswered None is = tt
    unanswered (Some change) is = record {
      caller = is.caller;
      there = is.there;
      later = is.later;
      calls = is.calls;
      index = is.index;
      number = is.number;
    }

    by : (change : Option Change) → KeepsBy change w left → KeepsBy change (world_left w left) left
    by None h = h
    by (Some change) h = h
