-- What an edit that was entered makes of the side.
use Rattle.std.proofs.Common.{◌≡◌, ℕ, List, Option, refl, sym, ap, subst, ◌∙◌, true≢false}
use Rattle.mm_writer.proofs.Consistent.{state_grown}
use Rattle.mm_writer.proofs.InDoubt.{doubted_grown}
use Rattle.mm_writer.proofs.Sides.{consistent_edited, step_set}
use Rattle.mm_writer.specs.Books.{Enters}
use Rattle.mm_writer.specs.declared.books.Books.{Books}
use Rattle.mm_writer.specs.declared.edit.Edit.{Edit}
use Rattle.mm_writer.specs.Edit.{MayEdit, edited}
use Rattle.mm_writer.specs.Doubt.{SetInDoubt}
use Rattle.mm_writer.specs.Engine.{AreDoubted, IsKept, side_by}
use Rattle.mm_writer.specs.Outcome.{Grows, IsAnswered, entry_after}
use Rattle.mm_writer.specs.Side.{IsConsistent, Side, first_state, grown, state_of}
use Rattle.pending_range.specs.declared.ranges.Ranges.{Ranges}
use Rattle.pending_range.specs.Laws.{AgreementGrows, AgreementIsReflexive}
use Rattle.pending_range.specs.Ranges.{IsWider}
use Rattle.policy_table.specs.PolicyState.{PolicyState, policies_of}
use Rattle.set_rules.specs.declared.room_totals.RoomTotals.{RoomTotals}
use Rattle.set_rules.specs.RoomTotals.{IsTotalOf}
use Rattle.var_trace.specs.declared.change.Change.{Change}
use Rattle.var_trace.specs.StoresAfter.{history_in}
use Rattle.var_types.specs.declared.call.Call.TheVariants.{Set as SetCalled}
use Rattle.var_types.specs.declared.call.SetCall.{SetCall}
use Rattle.var_types.specs.declared.reply.Reply.TheVariants.{Set as SetReplied}
use Rattle.var_types.specs.declared.reply.SetReply.{SetReply}
use Rattle.var_types.specs.declared.reply.SetReply.TheVariants.{Ok as Changed}
use Rattle.var_types.specs.declared.store.Store.{Store}
use Rattle.var_types.specs.declared.store.Store.TheVariants.{NonVolatile, Volatile}
use Rattle.var_types.specs.DeviceErrors.{IsReplyIn}
use Rattle.var_types.specs.History.{Entry}
use Rattle.var_types.specs.Set.{changed, set_step}
use Rattle.var_types.specs.State.{State}
use Rattle.var_types.specs.Step.{step}
use Rattle.var_types.specs.Stores.{bytes_in, map_in, part, with_store}

-- the side after an edit of the volatile store is the one of before with a change more
pub grown_volatile : (opened mirror old new : List ℕ) (entry : Entry) (before after : Books) (e : Enters Volatile old new entry before after)
    → side_by opened mirror new after
    ≡ grown (side_by opened mirror old before) (record { entry = entry; delta = e.change })
    (with_store (side_by opened mirror old before).stores Volatile new) after.ranges
grown_volatile opened mirror old new entry before after e = λ i.
    let side : Side = record (side_by opened mirror new after) {
      log = (e.trace i).log;
      limit = (e.trace i).limit;
      stores = record { non_volatile = mirror; volatile = new; runtime = e.runtime i };
      flushed = e.flushed i;
    } in
    side

-- the same of the non-volatile store
pub grown_non_volatile : (opened volatile old new : List ℕ) (entry : Entry) (before after : Books) (e : Enters NonVolatile old new entry before after)
    → side_by opened new volatile after
    ≡ grown (side_by opened old volatile before) (record { entry = entry; delta = e.change })
    (with_store (side_by opened old volatile before).stores NonVolatile new) after.ranges
grown_non_volatile opened volatile old new entry before after e = λ i.
    let side : Side = record (side_by opened new volatile after) {
      log = (e.trace i).log;
      limit = (e.trace i).limit;
      stores = record { non_volatile = new; volatile = volatile; runtime = e.runtime i };
      flushed = e.flushed i;
    } in
    side

-- a set that is a change is answered as such
reply_ok : (state : State) (call : SetCall) (next : State) → set_step state call ≡ (Changed, next) → IsReplyIn state (SetCalled call) (SetReplied Changed)
unfolding step
reply_ok state call next is =
    record { same = λ _ _. ap (λ (o : SetReply × State). SetReplied o.0) (sym is); device = λ h. absurd (true≢false (sym h)) }

module _ (side next : Side) (totals left : RoomTotals) (policies : PolicyState) (kept : IsKept side totals policies) (store : Store) (edit : Edit) (new : List ℕ) (processor index : ℕ) (call : SetCall) (before after : Books) (may : MayEdit (state_of side) store edit) (is : set_step (state_of side) call ≡ (Changed, changed (state_of side) (edited edit (state_of side).variables))) (map : map_in store new ≡ edited edit (map_in store (bytes_in side.stores store))) (ranges : before.ranges ≡ side.ranges) (phase : before.runtime ≡ side.stores.runtime) (e : Enters store (bytes_in side.stores store) new (entry_after side processor index (SetCalled call)) before after) (is_grown : next ≡ grown side (record { entry = entry_after side processor index (SetCalled call); delta = e.change }) (with_store side.stores store new) after.ranges) where
  -- the ranges cover all that they did
  wider : IsWider side.ranges after.ranges
  wider = subst (λ (r : Ranges). IsWider r after.ranges) ranges e.wider

  -- the state after it
  state_next : state_of next ≡ changed (state_of side) (edited edit (state_of side).variables)
  state_next =
      let change : Change = record { entry = entry_after side processor index (SetCalled call); delta = e.change } in
      ap state_of is_grown ∙ state_grown side change (with_store side.stores store new) after.ranges
      ∙ step_set (state_of side) call (changed (state_of side) (edited edit (state_of side).variables)) is

  -- and its variables
  pub variables_next : (state_of next).variables ≡ edited edit (state_of side).variables
  variables_next = ap (λ (s : State). s.variables) state_next

  -- the side keeps what it has to
  pub kept_edited : AgreementGrows → AgreementIsReflexive → IsTotalOf left (edited edit (state_of side).variables) → IsKept next left policies
  kept_edited grows same rooms = record {
    consistent =
        subst IsConsistent (sym is_grown)
        (consistent_edited grows same side kept.consistent store edit may call is (entry_after side processor index (SetCalled call)) e.change new after.ranges
        refl map (e.writes side.stores refl (sym phase)) wider e.len e.covered);
    rooms = subst (IsTotalOf left) (sym variables_next) rooms;
    policies = ap policies_of state_next ∙ kept.policies;
  }

  -- a set in doubt stays so where the non-volatile variables do
  pub doubted_over : part NonVolatile (edited edit (state_of side).variables) ≡ part NonVolatile (state_of side).variables → (set : SetInDoubt) (doubt : Option (List ℕ))
      → AreDoubted (first_state side) (history_in side.log) set doubt → AreDoubted (first_state next) (history_in next.log) set doubt
  doubted_over stay set doubt d =
      let change : Change = record { entry = entry_after side processor index (SetCalled call); delta = e.change } in
      subst (λ (s : Side). AreDoubted (first_state s) (history_in s.log) set doubt) (sym is_grown)
      (doubted_grown side change (with_store side.stores store new) after.ranges
      (sym (ap (λ (s : Side). part NonVolatile (state_of s).variables) is_grown) ∙ ap (part NonVolatile) variables_next ∙ stay) set doubt d)

  -- and the set was answered
  pub answered_ok : IsAnswered side next processor index (SetCalled call) (SetReplied Changed)
  answered_ok = record {
    right = reply_ok (state_of side) call (changed (state_of side) (edited edit (state_of side).variables)) is;
    change = λ _.
        subst (λ (s : Side). Grows side s (entry_after side processor index (SetCalled call))) (sym is_grown)
        (record { delta = e.change; log = refl; inside = e.inside side.stores refl; opening = refl; limit = refl; flushed = refl; wider = wider });
    same = λ h. absurd (true≢false h);
  }
