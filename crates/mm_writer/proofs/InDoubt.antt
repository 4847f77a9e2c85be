-- The set in doubt, by name: over a history that grows, after a set that failed, and in what the flash keeps.
use Rattle.std.proofs.Common.{◌≡◌, ◌≢◌, false, true≢false, inl, inr, ⊎_elim, ℕ, ◌+◌, ◌≤◌, List, [], ◌∷◌, length, Option, Some, None, IfSome, refl, sym, ap, subst, ◌∙◌, arith, length-append}
use Rattle.std.proofs.lemmas.List.{length-map, take_all}
use Rattle.std.specs.Prelude.{IsSome}
use Rattle.flash_dev.proofs.Calls.{told_at}
use Rattle.flash_dev.proofs.Moments.{stays_none, stays_weaken}
use Rattle.flash_dev.specs.Moments.{Stays}
use Rattle.mm_writer.proofs.Consistent.{after_all, after_grown, below_or_last}
use Rattle.mm_writer.proofs.Failing.{is_change_of_one, part_left}
use Rattle.mm_writer.proofs.Sides.{means_now}
use Rattle.mm_writer.specs.declared.edit.Edit.{Edit}
use Rattle.mm_writer.specs.Doubt.{IsInDoubt, SetInDoubt, doubt_by, variables_at}
use Rattle.mm_writer.specs.Edit.{MayEdit, edit_key, edited}
use Rattle.mm_writer.specs.Editing.{IsEditLeft, IsHeldBut, IsStillHeld, IsStillInDoubt}
use Rattle.mm_writer.specs.Engine.{AreDoubted, IsDoubted}
use Rattle.mm_writer.specs.Outcome.{AnswersSet, IsDoubtLeft, IsKeptBut, IsKeptBy, IsSetLeft, IsUnhealed, failed_after}
use Rattle.mm_writer.specs.Side.{IsConsistent, Side, first_state, grown, state_of}
use Rattle.nv_store.specs.Outcome.{IsLeftInDoubt}
use Rattle.pending_range.specs.declared.ranges.Ranges.{Ranges}
use Rattle.var_trace.specs.declared.change.Change.{Change}
use Rattle.var_trace.specs.StoresAfter.{history_in}
use Rattle.var_types.specs.declared.call.Call.TheVariants.{Set as SetCalled}
use Rattle.var_types.specs.declared.call.SetCall.{SetCall}
use Rattle.var_types.specs.declared.reply.Reply.TheVariants.{Set as SetReplied}
use Rattle.var_types.specs.declared.reply.SetReply.{SetReply}
use Rattle.var_types.specs.declared.reply.SetReply.TheVariants.{Device, Ok as Changed}
use Rattle.var_types.specs.declared.store.Store.TheVariants.{NonVolatile}
use Rattle.var_types.specs.DeviceErrors.{IsNonVolatileChange, IsReplyIn}
use Rattle.var_types.specs.History.{Entry, after, run}
use Rattle.var_types.specs.Kept.{kept}
use Rattle.var_types.specs.Reading.{set_key}
use Rattle.var_types.specs.Set.{changed, set_step}
use Rattle.var_types.specs.State.{State}
use Rattle.var_types.specs.Step.{is_change}
use Rattle.var_types.specs.Stores.{Stores, map_in, part}

-- there are as many entries as changes
entries : (log : List Change) → length (history_in log) ≡ length log
entries log = length-map log (λ (c : Change). c.entry)

-- the state after all changes is the state now
pub at_end : (side : Side) → after (first_state side) (history_in side.log) (length side.log) ≡ state_of side
unfolding state_of
at_end side =
    ap (run (first_state side)) (take_all (length side.log) (history_in side.log) (let all : length (history_in side.log) ≤ length side.log = omega (arith, entries side.log) in all))

module _ (side : Side) (change : Change) (stores : Stores) (ranges : Ranges) (same : part NonVolatile (state_of (grown side change stores ranges)).variables ≡ part NonVolatile (state_of side).variables) (set : SetInDoubt) where
  abbrev next : Side
  next = grown side change stores ranges

  -- the variables after fewer changes are as they were
  variables_before : (b : ℕ) → b ≤ length side.log
      → variables_at (first_state next) (history_in next.log) b ≡ variables_at (first_state side) (history_in side.log) b
  variables_before b within = ap (λ (s : State). part NonVolatile s.variables) (after_grown side change stores ranges b within)

  -- those after all of them too
  variables_all : (b : ℕ) → b ≡ length side.log + 1
      → variables_at (first_state next) (history_in next.log) b ≡ variables_at (first_state side) (history_in side.log) (length side.log)
  variables_all b last =
      ap (λ (s : State). part NonVolatile s.variables) (after_all side change stores ranges b last) ∙ same
      ∙ sym (ap (λ (s : State). part NonVolatile s.variables) (at_end side))

  -- a set stays in doubt over a change that leaves the non-volatile variables
  in_doubt_grown : IsInDoubt (first_state side) (history_in side.log) set → IsInDoubt (first_state next) (history_in next.log) set
  in_doubt_grown d =
      let within : set.place ≤ length side.log = omega (arith, d.place, entries side.log) in
      let more : length (history_in next.log) ≡ length side.log + 1 =
      omega (arith, entries next.log, length-append side.log (change ∷ [])) in
      record {
        place = omega (arith, within, more);
        fails =
            subst (λ (s : State). IsNonVolatileChange s set.call) (sym (after_grown side change stores ranges set.place within)) d.fails;
        quiet = λ k low high.
            ⊎_elim
            (λ (early : k ≤ length side.log).
            variables_before k early ∙ d.quiet k low (omega (arith, early, entries side.log)) ∙ sym (variables_before set.place within))
            (λ (last : k ≡ length side.log + 1).
            variables_all k last ∙ d.quiet (length side.log) within (omega (arith, entries side.log)) ∙ sym (variables_before set.place within))
            (below_or_last k side.log change (omega (arith, high, entries next.log)));
      }

  pub doubted_grown : (after : Option (List ℕ)) → AreDoubted (first_state side) (history_in side.log) set after
      → AreDoubted (first_state next) (history_in next.log) set after
  doubted_grown None d = tt
  doubted_grown (Some after) d =
      let within : set.place ≤ length side.log = omega (arith, d.is.place, entries side.log) in
      record {
        is = in_doubt_grown d.is;
        map =
            d.map
            ∙ sym (ap (λ (s : State). part NonVolatile (set_step s set.call).1.variables) (after_grown side change stores ranges set.place within));
      }

-- where nothing is in doubt, no set is
pub none_doubted : (first : State) (history : List Entry) (set : SetInDoubt) (after : Option (List ℕ)) → after ≡ None → AreDoubted first history set after
none_doubted first history set after none = subst (AreDoubted first history set) (sym none) tt

-- the set in doubt may be
pub in_doubt_by : (first : State) (history : List Entry) (set : SetInDoubt) (after : Option (List ℕ)) → AreDoubted first history set after
    → IfSome (doubt_by after set) (IsInDoubt first history)
in_doubt_by first history set None d = tt
in_doubt_by first history set (Some after) d = d.is

-- one is in doubt where a change of the store is
pub some_by : (set : SetInDoubt) (after : Option (List ℕ)) → IsSome after → IsSome (doubt_by after set)
some_by set None some = some
some_by set (Some after) some = some

-- ---- what the flash keeps

-- where no set is in doubt, it keeps the side's variables
pub kept_sure : (side : Side) (doubt : Option SetInDoubt) (image : List ℕ) → doubt ≡ None → IsKeptBut side doubt image → IsKeptBy side image
kept_sure side doubt image sure is = subst (λ d. IsKeptBut side d image) sure is

module _ (side : Side) (c : IsConsistent side) (set : SetInDoubt) (after : Option (List ℕ)) (d : AreDoubted (first_state side) (history_in side.log) set after) where
  -- what keeps the mirror's variables, or those of a change in doubt, keeps the side's, or those of the set in doubt
  pub held_kept : (image : List ℕ) → IsHeldBut side.stores.non_volatile after image → IsKeptBut side (doubt_by after set) image
  held_kept image = by after d
    where
      by : (o : Option (List ℕ)) → AreDoubted (first_state side) (history_in side.log) set o → IsHeldBut side.stores.non_volatile o image
          → IsKeptBut side (doubt_by o set) image
      by None none is = is ∙ (means_now side c).each NonVolatile
      by (Some bytes) some is =
          ⊎_elim (λ (before : kept image ≡ map_in NonVolatile side.stores.non_volatile). inl (before ∙ (means_now side c).each NonVolatile))
          (λ (with_it : kept image ≡ map_in NonVolatile bytes). inr (with_it ∙ some.map)) is

  pub keeps_by : (told : Option (List ℕ)) → IfSome told (IsHeldBut side.stores.non_volatile after) → IfSome told (IsKeptBut side (doubt_by after set))
  keeps_by None is = tt
  keeps_by (Some image) is = held_kept image is

  -- a failed heal leaves the set in doubt
  pub unhealed_by : {F : Type 0} {moment : F → ℕ} {left_since : F → ℕ → List ℕ → Type 0} {holds : F → Option (List ℕ)} (old new : F × (List ℕ × Option (List ℕ))) (behind : Side)
      → old.1 ≡ (side.stores.non_volatile, after) → IsStillInDoubt moment left_since holds old new
      → IsUnhealed moment left_since holds (old.0, (doubt_by after set, side)) (new.0, (doubt_by new.1.1 set, behind))
  unhealed_by {moment = moment} {left_since = left_since} {holds = holds} old new behind is failed = record {
    some = some_by set after (subst (λ (o : List ℕ × Option (List ℕ)). IsSome o.1) is failed.some);
    same = ap (λ (o : List ℕ × Option (List ℕ)). doubt_by o.1 set) (failed.same ∙ is);
    at_any_moment =
        stays_weaken (IsStillHeld old.1) (IsDoubtLeft side (doubt_by after set)) old.0 new.0 failed.at_any_moment
        (λ image left told held. held_kept left (subst (λ (o : List ℕ × Option (List ℕ)). IsHeldBut o.0 o.1 left) is held));
  }

  module _ (edit : Edit) (call : SetCall) (may : MayEdit (state_of side) NonVolatile edit) (is : set_step (state_of side) call ≡ (Changed, changed (state_of side) (edited edit (state_of side).variables))) where
    -- the variables of the edited mirror are those that the set leaves
    edited_left : edited edit (map_in NonVolatile side.stores.non_volatile) ≡ part NonVolatile (set_step (state_of side) call).1.variables
    edited_left = ap (edited edit) ((means_now side c).each NonVolatile) ∙ sym (part_left side c edit call may is)

    -- at each moment of the edit the flash keeps what it may within the set
    pub set_moments : {F : Type 0} {moment : F → ℕ} {left_since : F → ℕ → List ℕ → Type 0} {holds : F → Option (List ℕ)} (old new : F)
        → Stays (IsEditLeft (edited edit) (side.stores.non_volatile, after)) moment left_since holds old new
        → Stays (IsSetLeft side (doubt_by after set) call) moment left_since holds old new
    set_moments old new run =
        stays_weaken (IsEditLeft (edited edit) (side.stores.non_volatile, after)) (IsSetLeft side (doubt_by after set) call) old new run
        (λ image left told change.
        record {
          kept =
              ⊎_elim (λ held. inl (held_kept left held))
              (λ (with_it : kept left ≡ edited edit (map_in NonVolatile side.stores.non_volatile)). inr (with_it ∙ edited_left)) change.kept;
          headers = change.headers;
          sound = change.sound;
        })

    -- a set that failed may be in doubt
    in_doubt_new : edit_key edit ≡ set_key call → (processor index : ℕ)
        → IsInDoubt (first_state side) (history_in side.log) (failed_after side processor index call)
    in_doubt_new key processor index = record {
      place = omega (arith, entries side.log);
      fails =
          subst (λ (s : State). IsNonVolatileChange s call) (sym (at_end side)) (is_change_of_one side c edit call may is key);
      quiet = λ k low high.
          ap (variables_at (first_state side) (history_in side.log)) (let all : k ≡ length side.log = omega (arith, low, high, entries side.log) in all);
    }

    -- and is
    pub doubted_failed : edit_key edit ≡ set_key call → (processor index : ℕ) (failed : SetInDoubt) (old new : List ℕ × Option (List ℕ))
        → failed ≡ failed_after side processor index call → old.0 ≡ side.stores.non_volatile → IsLeftInDoubt (edited edit) old new
        → AreDoubted (first_state side) (history_in side.log) failed new.1
    doubted_failed key processor index failed old new named mirror left =
        subst (AreDoubted (first_state side) (history_in side.log) failed) (sym left.doubt)
        (subst (λ (s : SetInDoubt). IsDoubted (first_state side) (history_in side.log) s left.after) (sym named)
        (record {
          is = in_doubt_new key processor index;
          map =
              left.map ∙ ap (λ (bytes : List ℕ). edited edit (map_in NonVolatile bytes)) mirror ∙ edited_left
              ∙ sym (ap (λ (s : State). part NonVolatile (set_step s call).1.variables) (at_end side));
        }))

-- by its name, which has its place
pub named_after : (side : Side) (processor index place : ℕ) (call : SetCall) (failed : SetInDoubt)
    → failed ≡ record { processor = processor; index = index; place = place; call = call } → place ≡ length side.log
    → failed ≡ failed_after side processor index call
named_after side processor index place call failed is at =
    is
    ∙ ap (λ (n : ℕ). let set : SetInDoubt = record { processor = processor; index = index; place = n; call = call } in set) at

pub failed_is : (change : _) (old new : List ℕ × Option (List ℕ)) (failed set : SetInDoubt) → IsLeftInDoubt change old new → failed ≡ set
    → doubt_by new.1 failed ≡ Some set
failed_is change old new failed set left named = ap (λ o. doubt_by o failed) left.doubt ∙ ap Some named

-- a set may leave the image as it was
pub left_itself : (side : Side) (doubt : Option SetInDoubt) (call : SetCall) (told : Option (List ℕ)) (image : List ℕ) → IfSome told (IsKeptBut side doubt) → told ≡ Some image
    → IsSetLeft side doubt call image image
left_itself side doubt call told image keeps at = record {
  kept = inl (told_at (IsKeptBut side doubt) told image keeps at);
  headers = refl;
  sound = λ sound. sound;
}

-- a set that is no change and meets no failure leaves all as it was
pub answers_unchanged : {F : Type 0} (moment : F → ℕ) (left_since : F → ℕ → List ℕ → Type 0) (holds : F → Option (List ℕ)) (fault_count : F → ℕ)
    (engine : F × (Option SetInDoubt × Side)) (processor index : ℕ) (call : SetCall) (reply : SetReply) → is_change (SetReplied reply) ≡ false → reply ≢ Device
    → IsReplyIn (state_of engine.1.1) (SetCalled call) (SetReplied reply) → IfSome (holds engine.0) (IsKeptBut engine.1.1 engine.1.0)
    → AnswersSet moment left_since holds fault_count engine engine processor index call reply
answers_unchanged {F} moment left_since holds fault_count engine processor index call reply no_change no_fault right keeps =
    let changes : reply ≡ Changed → ⊥ = λ e. true≢false (sym (ap (λ (r : SetReply). is_change (SetReplied r)) e) ∙ no_change) in
    record {
      answered = record { right = right; change = λ e. absurd (true≢false (sym e ∙ no_change)); same = λ _. refl };
      untouched = λ _ _. refl;
      same_doubt = λ _ _. refl;
      sure = λ _ sure. sure;
      ended = λ e. absurd (changes e);
      volatile = λ _ _. (refl, refl);
      failed = λ e. absurd (no_fault e);
      at_any_moment =
          stays_none (IsSetLeft engine.1.1 engine.1.0 call) engine.0
          (λ image told. left_itself engine.1.1 engine.1.0 call (holds engine.0) image keeps told);
      cause = record { done = λ _. refl; failed = λ e. absurd (no_fault e); never_falls = omega arith };
    }
