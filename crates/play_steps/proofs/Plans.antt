-- A call that an engine answered is a plan of the core.
use Rattle.std.proofs.Common.{◌≡◌, ⊎_elim, inl, inr, ℕ, ◌+◌, ◌-◌, ◌≤◌, ◌<◌, true, false, List, [], ◌∷◌, ◌++◌, All, Some, None, length, refl, sym, ap, subst, ◌∙◌, arith, length-append}
use Rattle.std.proofs.lemmas.List.{length-map, take_all}
use Rattle.std.specs.Prelude.{slice_get, slice_index_or}
use Rattle.mm_writer.proofs.Consistent.{state_grown}
use Rattle.mm_writer.proofs.Sides.{means_now}
use Rattle.mm_writer.specs.Outcome.{Grows, entry_after}
use Rattle.mm_writer.specs.Side.{IsInStore as IsInSide, Side, first_state, grown, state_of}
use Rattle.play_steps.proofs.Done.{opening_by}
use Rattle.play_steps.proofs.Marks.{at_each_moment}
use Rattle.play_steps.specs.EngineWriter.{EngineState, IsDone, IsReady, IsWhole, opening_of, own_of}
use Rattle.play_steps.specs.ListedFlash.{GivesList, IsLeftIn, bytes_of}
use Rattle.svc_core.specs.declared.flash_step.FlashStep.{FlashStep}
use Rattle.svc_core.specs.FlashSteps.{Moments, StepsFit, after_steps}
use Rattle.svc_core.specs.Plan.{IsChangePlan, IsInStore, IsPlan, KeepsWithOrWithout, store_size}
use Rattle.svc_core.specs.Writer.{Opening, Writer, state_at}
use Rattle.var_trace.proofs.StoresAfter.{are_after}
use Rattle.var_trace.specs.declared.change.Change.{Change}
use Rattle.var_trace.specs.declared.piece.Piece.{Piece}
use Rattle.var_trace.specs.Pieces.{with_change}
use Rattle.var_trace.specs.StoresAfter.{history_in, stores_after}
use Rattle.var_types.specs.declared.call.Call.{Call}
use Rattle.var_types.specs.declared.reply.Reply.{Reply}
use Rattle.var_types.specs.declared.store.Store.{Store}
use Rattle.var_types.specs.declared.store.Store.TheVariants.{NonVolatile, Volatile}
use Rattle.var_types.specs.History.{run}
use Rattle.var_types.specs.State.{State}
use Rattle.var_types.specs.Step.{is_change, step}
use Rattle.var_types.specs.Stores.{HaveSizes, Means, Stores, bytes_in, part}

-- the state after all changes is the side's
pub state_now : (e : EngineState) (n : ℕ) → length e.1.1.log ≤ n → state_at (opening_of e) e.1.1.log n ≡ state_of e.1.1
unfolding state_of
state_now e n all =
    let entries : length (history_in e.1.1.log) ≤ n = omega (arith, all, length-map e.1.1.log (λ (change : Change). change.entry)) in
    ap (run (first_state e.1.1)) (take_all n (history_in e.1.1.log) entries)

-- the last of changes
last_is : (log : List Change) (last change : Change) → slice_get (log ++ last ∷ []) (length (log ++ last ∷ []) - 1) ≡ Some change → last ≡ change
last_is log last change is =
    at_end log (subst (λ n. slice_get (log ++ last ∷ []) n ≡ Some change) (omega (arith, length-append log (last ∷ []))) is)
  where
    at_end : (log : List Change) → slice_get (log ++ last ∷ []) (length log) ≡ Some change → last ≡ change
    at_end [] is = cc
    at_end (c ∷ log) is = at_end log is

-- the sizes of the stores
size_in : (stores : Stores) → HaveSizes stores → (store : Store) → length (bytes_in stores store) ≡ store_size store
size_in stores sizes NonVolatile = sizes.non_volatile
size_in stores sizes Volatile = sizes.volatile

-- pieces within the stores are within their sizes
all_inside : (stores : Stores) → HaveSizes stores → (pieces : List Piece) → All (IsInSide stores) pieces → All IsInStore pieces
all_inside stores sizes pieces inside = λ k d h.
    let piece = slice_index_or pieces k d in
    let within : piece.at + length piece.bytes ≤ length (bytes_in stores piece.store) = inside k d h in
    subst (λ n. piece.at + length piece.bytes ≤ n) (size_in stores sizes piece.store) within

-- an engine that gave out its list has all that is its own
pub own_given : (e next : EngineState) (given : List FlashStep) → GivesList e.0 given next.0 → next.1 ≡ e.1 → own_of next ≡ own_of e
own_given e next given gives rest = λ i.
    let w : Writer = record { log = (rest i).1.log; stores = (rest i).1.stores; image = bytes_of (gives.begun i) } in
    w

module _ (old new : EngineState) (processor index : ℕ) (call : Call) (reply : Reply) (ready : IsReady old) (done : IsDone old new processor index call reply) where
  -- the reply is the service's after the writer's history
  right : reply ≡ (step (state_at (opening_of old) (own_of old).log (length (own_of old).log)) call).0
  right = done.right ∙ ap (λ (s : State). (step s call).0) (sym (state_now old (length old.1.1.log) (omega arith)))

  -- a call that is no change
  pub same_plan : is_change reply ≡ false
      → IsPlan (opening_of old) (own_of old) processor index call (record { reply = reply; steps = []; change = None }) (own_of new)
  same_plan unchanged = record { reply = right; outcome = (unchanged, refl, ap own_of (done.same unchanged)) }

  module _ (whole : IsWhole old) (after : IsWhole new) (changed : is_change reply ≡ true) where
    abbrev grows : Grows old.1.1 new.1.1 (entry_after old.1.1 processor index call)
    grows = done.change changed

    abbrev change : Change
    change = record { entry = entry_after old.1.1 processor index call; delta = grows.delta }

    -- the side's log has it at its end
    log_length : length new.1.1.log ≡ length old.1.1.log + 1
    log_length = ap length grows.log ∙ length-append old.1.1.log (change ∷ [])

    pub some_change : 0 < length new.1.1.log
    some_change = omega (arith, log_length)

    opening_same : opening_of new ≡ opening_of old
    opening_same = opening_by old new grows.opening grows.limit

    -- the state behind it
    state_behind : state_at (opening_of old) new.1.1.log (length old.1.1.log + 1) ≡ state_of new.1.1
    state_behind =
        ap (λ (o : Opening). state_at o new.1.1.log (length old.1.1.log + 1)) (sym opening_same)
        ∙ state_now new (length old.1.1.log + 1) (omega (arith, log_length))

    -- it is the one behind the call
    state_stepped : state_at (opening_of old) (old.1.1.log ++ change ∷ []) (length old.1.1.log + 1) ≡ (step (state_of old.1.1) call).1
    unfolding first_state
    state_stepped =
        let side : Side = grown old.1.1 change old.1.1.stores old.1.1.ranges in
        let e : EngineState = (old.0, (old.1.0, side)) in
        state_now e (length old.1.1.log + 1) (omega (arith, length-append old.1.1.log (change ∷ [])))
        ∙ state_grown old.1.1 change old.1.1.stores old.1.1.ranges

    -- the image before is where the steps begin
    image_first : new.0.first ≡ bytes_of old.0
    image_first = done.first ∙ ap (λ (s : List FlashStep). after_steps s old.0.first) (sym ready.given)

    -- the stores behind it
    stores_behind : new.1.1.stores ≡ with_change old.1.1.stores change.delta
    stores_behind =
        after.consistent.stores ∙ ap (λ (o : Stores). stores_after o new.1.1.log) grows.opening
        ∙ ap (stores_after old.1.1.opening) grows.log ∙ (are_after old.1.1.opening old.1.1.log (change ∷ [])).behind
        ∙ ap (λ (s : Stores). with_change s change.delta) (sym whole.consistent.stores)

    -- each image that the steps may leave keeps the variables with the change or without
    keeps : (left : List ℕ) → IsLeftIn new.0.steps new.0.first left → KeepsWithOrWithout (opening_of old) old.1.1.log change left
    keeps left is =
        ⊎_elim
        (λ before. inl (before ∙ ap (λ (s : State). part NonVolatile s.variables) (sym (state_now old (length old.1.1.log) (omega arith)))))
        (λ behind. inr (behind ∙ ap (λ (s : State). part NonVolatile s.variables) (sym state_stepped)))
        (done.moments left is)

    pub change_plan : StepsFit new.0.steps → IsChangePlan (opening_of old) (own_of old) processor index call new.0.steps change (own_of new)
    unfolding first_state
    change_plan fit = record {
      entry = refl;
      room = omega (arith, after.room, log_length, grows.limit);
      log = grows.log;
      stores = stores_behind;
      image = ap (after_steps new.0.steps) image_first;
      inside = all_inside old.1.1.stores whole.sizes grows.delta.pieces grows.inside;
      fit = fit;
      means = subst (Means new.1.1.stores) (sym state_behind) (means_now new.1.1 after.consistent);
      moments =
          subst (λ (image : List ℕ). Moments (KeepsWithOrWithout (opening_of old) old.1.1.log change) image new.0.steps) image_first
          (at_each_moment (KeepsWithOrWithout (opening_of old) old.1.1.log change) new.0.steps new.0.first keeps);
      end = after.kept done.sure ∙ ap (λ (s : State). part NonVolatile s.variables) (sym state_behind);
    }

    -- a call that is a change
    pub whole_plan : (last : Change) (steps : List FlashStep) → slice_get new.1.1.log (length new.1.1.log - 1) ≡ Some last → steps ≡ new.0.steps
        → StepsFit steps
        → IsPlan (opening_of old) (own_of old) processor index call (record { reply = reply; steps = steps; change = Some last }) (own_of new)
    whole_plan last steps is listed fit =
        let same : change ≡ last =
        last_is old.1.1.log change last (subst (λ (log : List Change). slice_get log (length log - 1) ≡ Some last) grows.log is) in
        subst
        (λ (s : List FlashStep). IsPlan (opening_of old) (own_of old) processor index call (record { reply = reply; steps = s; change = Some last }) (own_of new))
        (sym listed)
        (subst
        (λ (c : Change). IsPlan (opening_of old) (own_of old) processor index call (record { reply = reply; steps = new.0.steps; change = Some c }) (own_of new))
        same
        (record { reply = right; outcome = (changed, change_plan (subst StepsFit listed fit)) }))
