-- From an opening to the calls that were run on it, and to what they leave.
use Rattle.std.proofs.Common.{◌≡◌, ℕ, ◌≤◌, Bool, true, false, true≢false, Result, Ok, Err, IsOk, List, [], length, sum_by, Option, Some, None, IfSome, IsSomeAnd, refl, sym, ap, subst, ◌∙◌, arith, inl, inr, ⊎_elim}
use Rattle.flash_dev.specs.declared.geometry.Geometry.{Geometry}
use Rattle.flash_dev.specs.declared.image_fault.ImageFault.{ImageFault}
use Rattle.flash_dev.proofs.Moments.{stays_since, stays_weaken}
use Rattle.flash_dev.specs.Rules.{Leaves}
use Rattle.mm_writer.specs.Doubt.{IsInDoubt, SetInDoubt, variables_at, variables_with}
use Rattle.mm_writer.specs.Outcome.{IsKeptBut, IsKeptBy}
use Rattle.mm_writer.specs.Side.{Side, first_state, state_of}
use Rattle.ftw_mount.specs.Mount.{content_geometry}
use Rattle.nv_store.specs.Opening.{IsOpeningLeft, refusal_by, refusal_of}
use Rattle.report_text.specs.Session.{history_from}
use Rattle.var_trace.specs.declared.change.Change.{Change}
use Rattle.var_trace.specs.StoresAfter.{history_in}
use Rattle.var_types.specs.declared.answered.Answered.{Answered}
use Rattle.var_types.specs.declared.store.Store.TheVariants.{NonVolatile}
use Rattle.var_types.specs.History.{Entry, after, run}
use Rattle.var_types.specs.Kept.{IsSound, kept, spare, work_area}
use Rattle.var_types.specs.declared.work_state.WorkState.{WorkState}
use Rattle.var_types.specs.declared.work_state.WorkState.TheVariants.{Clean, Pending, Unclean}
use Rattle.var_types.specs.WorkArea.{is_blank, work_state}
use Rattle.var_types.specs.State.{State}
use Rattle.var_types.specs.Stores.{part}
use Rattle.varsvc.specs.Opened.{IsOpened}
use Rattle.varsvc.specs.Running.{HasRun, IsLeftSoFar}
use Rattle.varsvc.specs.Runs.{HasSetMore, IsRunLeft, KeepsRun, LeavesRun, WasFailed, all_answered, start_on}
use Rattle.varsvc.specs.Told.{told_of}
use Rattle.varsvc.proofs.Processors.{no_processor}
use Rattle.varsvc.proofs.Running.{state_is}

-- an image that isn't refused is accepted
accepted_image : (image : List ℕ) → refusal_of image ≡ None → IsOk (content_geometry image) × IsSound image
unfolding refusal_of
accepted_image image is = by (content_geometry image) (is_blank (spare image)) (work_state (work_area image)) is
  where
    by : (geometry : Result Geometry ImageFault) (blank : Bool) (state : WorkState) → refusal_by geometry blank state ≡ None
        → IsOk geometry × (((blank ≡ false) × (state ≡ Unclean)) → ⊥)
    by (Err fault) blank state is = cc
    by (Ok geometry) true state is = (refl, λ h. true≢false h.0)
    by (Ok geometry) false Unclean is = cc
    by (Ok geometry) false (Clean slots) is = (refl, λ h. let e = h.1 in cc)
    by (Ok geometry) false (Pending slot) is = (refl, λ h. let e = h.1 in cc)

-- the state of a side without changes is that from which it opened
pub state_first : (side : Side) → side.log ≡ [] → state_of side ≡ first_state side
unfolding state_of
state_first side empty = ap (λ (log : List Change). run (first_state side) (history_in log)) empty

module _ {F : Type 0} {fault_count moment : F → ℕ} {left_since : F → ℕ → List ℕ → Type 0} {holds : F → Option (List ℕ)} (flash : F) (calls : ℕ) (opened : F × (Option SetInDoubt × Side)) (o : IsOpened fault_count moment left_since holds flash calls opened) (kept_then : IfSome (holds opened.0) (IsKeptBut opened.1.1 opened.1.0)) where
  -- the image that was opened kept the variables of the first state, at each moment of the opening too
  kept_first : (image : List ℕ) → holds flash ≡ Some image → kept image ≡ part NonVolatile (first_state opened.1.1).variables
  kept_first image told =
      from (holds opened.0) (subst (λ (t : Option (List ℕ)). Leaves IsOpeningLeft t (holds opened.0)) told o.at_any_moment.now)
      (subst (λ (d : Option SetInDoubt). IfSome (holds opened.0) (IsKeptBut opened.1.1 d)) o.sure kept_then)
      ∙ ap (λ (s : State). part NonVolatile s.variables) (state_first opened.1.1 o.empty)
    where
      from : (now : Option (List ℕ)) → IsSomeAnd now (IsOpeningLeft image) → IfSome now (IsKeptBy opened.1.1)
          → kept image ≡ part NonVolatile (state_of opened.1.1).variables
      from None is held = absurd is
      from (Some left) is held = sym is.kept ∙ held

  left_opened : (image left : List ℕ) → holds flash ≡ Some image → IsOpeningLeft image left → IsLeftSoFar (first_state opened.1.1) [] image left
  left_opened image left told is = inl (0, omega arith, is.kept ∙ kept_first image told)

  pub run_first : HasRun fault_count moment left_since holds (first_state opened.1.1) flash opened []
  run_first = record {
    opened = refl;
    log = ap history_in o.empty;
    legal = no_processor (first_state opened.1.1);
    in_turn = tt;
    calm = λ _. o.calm;
    failed = inl (let e = o.calm in omega (arith, e));
    never_falls = let e = o.calm in omega (arith, e);
    doubt = subst (λ (d : Option SetInDoubt). IfSome d (WasFailed [])) (sym o.sure) tt;
    at_any_moment =
        stays_weaken IsOpeningLeft (IsLeftSoFar (first_state opened.1.1) []) flash opened.0 o.at_any_moment (λ image left told is. left_opened image left told is);
  }

  module _ (only_now : (left : List ℕ) → left_since flash (moment flash) left → IfSome (holds flash) (λ image. left ≡ image)) (closed : F × (Option SetInDoubt × Side)) (xs : List (List Answered)) (ran : HasRun fault_count moment left_since holds (first_state opened.1.1) flash closed xs) (count : sum_by length xs ≡ calls) (kept_now : IfSome (holds closed.0) (IsKeptBut closed.1.1 closed.1.0)) (may_now : IfSome closed.1.0 (IsInDoubt (first_state closed.1.1) (history_in closed.1.1.log))) where
    -- the first state by the image
    pub first_on : IfSome (holds flash) (λ image. first_state opened.1.1 ≡ start_on image (sum_by length xs))
    first_on = some (holds flash) o.state
      where
        some : (told : Option (List ℕ)) → IfSome told (λ image. state_of opened.1.1 ≡ start_on image calls)
            → IfSome told (λ image. first_state opened.1.1 ≡ start_on image (sum_by length xs))
        some None is = tt
        some (Some image) is = sym (state_first opened.1.1 o.empty) ∙ is ∙ ap (start_on image) (sym count)

    -- the history of the session
    abbrev history : List Entry
    history = history_from 0 xs

    -- what keeps the side's variables keeps those after the whole of it
    whole : (left : List ℕ) → IsKeptBy closed.1.1 left → KeepsRun (first_state opened.1.1) history (all_answered xs) left
    whole left is =
        inl (is ∙ ap (λ (s : State). part NonVolatile s.variables) (state_is closed.1.1 (first_state opened.1.1) history ran.opened ran.log))

    -- and what keeps those with the set in doubt, those with one set more
    but_whole : (doubt : Option SetInDoubt) (left : List ℕ) → IfSome doubt (IsInDoubt (first_state closed.1.1) (history_in closed.1.1.log)) → IfSome doubt (WasFailed (all_answered xs))
        → IsKeptBut closed.1.1 doubt left → KeepsRun (first_state opened.1.1) history (all_answered xs) left
    but_whole None left may failed is = whole left is
    but_whole (Some set) left may failed is =
        ⊎_elim (whole left)
        (λ (with_it : kept left ≡ variables_with (first_state closed.1.1) (history_in closed.1.1.log) set).
        inr
        (record {
          set = set;
          failed = failed;
          doubt =
              subst (λ (s : State). IsInDoubt s history set) ran.opened
              (subst (λ (es : List Entry). IsInDoubt (first_state closed.1.1) es set) ran.log may);
          kept = with_it ∙ (λ i. variables_with (ran.opened i) (ran.log i) set);
        }))
        is

    kept_end : (told : Option (List ℕ)) → Leaves (IsLeftSoFar (first_state opened.1.1) xs) told (holds closed.0) → IfSome (holds closed.0) (IsKeptBut closed.1.1 closed.1.0)
        → IfSome told (λ image. IsSomeAnd (holds closed.0) (KeepsRun (first_state opened.1.1) history (all_answered xs)))
    kept_end None stays held = tt
    kept_end (Some image) stays held = from (holds closed.0) stays held
      where
        from : (now : Option (List ℕ)) → IsSomeAnd now (IsLeftSoFar (first_state opened.1.1) xs image) → IfSome now (IsKeptBut closed.1.1 closed.1.0)
            → IsSomeAnd now (KeepsRun (first_state opened.1.1) history (all_answered xs))
        from None is held = absurd is
        from (Some left) is held = but_whole closed.1.0 left may_now ran.doubt held

    pub leaves_on : (size : F → ℕ) (input : Option (List ℕ))
        → LeavesRun (told_of holds size fault_count moment left_since input flash closed.0) (first_state opened.1.1) xs
    leaves_on size input = record {
      keeps = kept_end (holds flash) ran.at_any_moment.now kept_now;
      at_any_moment =
          later (holds flash)
          (λ left since.
          stays_since (IsLeftSoFar (first_state opened.1.1) xs) flash closed.0 left ran.at_any_moment (only_now left)
          (λ image told. inl (0, omega arith, kept_first image told)) since);
      calm = ran.calm;
      failed = ran.failed;
    }
      where
        later : (told : Option (List ℕ))
            → ((left : List ℕ) → left_since closed.0 (moment flash) left → IfSome told (λ image. IsRunLeft (first_state opened.1.1) history (all_answered xs) left))
            → IfSome told (λ image. (left : List ℕ) → left_since closed.0 (moment flash) left → IsRunLeft (first_state opened.1.1) history (all_answered xs) left)
        later None h = tt
        later (Some image) h = h

    -- the image is accepted
    pub accepted_on : IfSome (holds flash) (λ image. IsOk (content_geometry image) × IsSound image)
    accepted_on = some (holds flash) o.accepted
      where
        some : (told : Option (List ℕ)) → IfSome told (λ image. refusal_of image ≡ None) → IfSome told (λ image. IsOk (content_geometry image) × IsSound image)
        some None is = tt
        some (Some image) is = accepted_image image is
