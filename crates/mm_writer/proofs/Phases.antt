-- A consistent side stays so by a change that writes no bytes.
use Rattle.std.proofs.Common.{◌≡◌, ℕ, ◌+◌, Bool, true, false, List, Option, length, refl, sym, ap, subst, ◌∙◌, true≢false, slice_index}
use Rattle.std.proofs.lemmas.List.Elements.{All-nil}
use Rattle.mm_writer.proofs.Consistent.{consistent_grown, state_grown}
use Rattle.mm_writer.proofs.InDoubt.{doubted_grown}
use Rattle.mm_writer.proofs.Sides.{means_now}
use Rattle.mm_writer.specs.Books.{entered_in, phase_change}
use Rattle.mm_writer.specs.declared.books.Books.{Books}
use Rattle.mm_writer.specs.Doubt.{SetInDoubt}
use Rattle.mm_writer.specs.Engine.{AreDoubted, IsEngine, IsKept, side_by}
use Rattle.mm_writer.specs.Outcome.{IsAnswered, entry_after}
use Rattle.mm_writer.specs.Side.{IsInStore, Side, first_state, grown, state_of}
use Rattle.pending_range.specs.declared.ranges.Ranges.{Ranges}
use Rattle.pending_range.specs.Laws.{AgreementGrows, AgreementIsReflexive}
use Rattle.pending_range.specs.Ranges.{AgreeOutside}
use Rattle.policy_table.specs.PolicyState.{PolicyState, policies_of}
use Rattle.set_rules.specs.declared.room_totals.RoomTotals.{RoomTotals}
use Rattle.set_rules.specs.RoomTotals.{IsTotalOf}
use Rattle.var_trace.specs.Pieces.{with_change}
use Rattle.var_trace.specs.StoresAfter.{history_in}
use Rattle.var_types.specs.declared.store.Store.{Store}
use Rattle.var_types.specs.declared.store.Store.TheVariants.{NonVolatile, Volatile}
use Rattle.var_types.specs.declared.call.Call.{Call}
use Rattle.var_types.specs.declared.reply.Reply.{Reply}
use Rattle.var_types.specs.DeviceErrors.{is_device_error}
use Rattle.var_types.specs.History.{Entry}
use Rattle.var_types.specs.State.{State}
use Rattle.var_types.specs.Step.{is_change, step}
use Rattle.var_types.specs.Stores.{Means, Stores, bytes_in, map_in, part}

-- the stores in another phase
abbrev in_phase : Stores → Bool → Stores
in_phase stores phase = record stores { runtime = phase }

-- a side whose books have an entry more that writes no bytes
pub entered_side : (opened mirror volatile : List ℕ) (books after : Books) (entry : Entry) (phase : Bool) → after ≡ entered_in books entry phase
    → side_by opened mirror volatile after
    ≡ grown (side_by opened mirror volatile books) (record { entry = entry; delta = phase_change phase })
    (in_phase (side_by opened mirror volatile books).stores phase) (side_by opened mirror volatile books).ranges
entered_side opened mirror volatile books after entry phase is = ap (side_by opened mirror volatile) is

-- they have the same bytes
same_bytes : (stores : Stores) (phase : Bool) (store : Store) → bytes_in (in_phase stores phase) store ≡ bytes_in stores store
same_bytes stores phase NonVolatile = refl
same_bytes stores phase Volatile = refl

-- and so agree outside of any ranges
agree_phase : (ranges : Ranges) (stores : Stores) (phase : Bool) → AgreeOutside ranges stores (in_phase stores phase)
agree_phase ranges stores phase = record {
  sizes = λ store. ap length (sym (same_bytes stores phase store));
  outside = λ store at out. ap (λ bytes. slice_index bytes at) (sym (same_bytes stores phase store));
}

-- they mean a state with the same variables in that phase
means_phase : (stores : Stores) (phase : Bool) (state left : State) → Means stores state → left.variables ≡ state.variables → left.runtime ≡ phase
    → Means (in_phase stores phase) left
means_phase stores phase state left means variables runtime = record {
  each = λ store.
      ap (map_in store) (same_bytes stores phase store) ∙ means.each store ∙ ap (part store) (sym variables);
  phase = sym runtime;
}

module _ (grows : AgreementGrows) (same : AgreementIsReflexive) (side : Side) (totals : RoomTotals) (table after : PolicyState) (kept : IsKept side totals table) (processor index : ℕ) (call : Call) (reply : Reply) (phase : Bool) (left : State) (is : step (state_of side) call ≡ (reply, left)) (variables : left.variables ≡ (state_of side).variables) (runtime : left.runtime ≡ phase) (made : left.made ≡ (state_of side).made + 1) (limit : left.limit ≡ (state_of side).limit) (policies : policies_of left ≡ after) where
  abbrev entry : Entry
  entry = entry_after side processor index call

  abbrev next : Side
  next = grown side (record { entry = entry; delta = phase_change phase }) (in_phase side.stores phase) side.ranges

  -- the state after it
  state_left : state_of next ≡ left
  state_left =
      state_grown side (record { entry = entry; delta = phase_change phase }) (in_phase side.stores phase) side.ranges
      ∙ ap (λ (o : Reply × State). o.1) is

  -- the side keeps what it has to
  pub kept_phase : IsKept next totals after
  unfolding with_change
  kept_phase = record {
    consistent =
        consistent_grown side (record { entry = entry; delta = phase_change phase }) grows same (in_phase side.stores phase) side.ranges kept.consistent refl
        (subst (Means (in_phase side.stores phase)) (sym (ap (λ (o : Reply × State). o.1) is))
        (means_phase side.stores phase (state_of side) left (means_now side kept.consistent) variables runtime))
        (ap (λ (o : Reply × State). o.1.made) is ∙ made) (ap (λ (o : Reply × State). o.1.limit) is ∙ limit)
        (record { wider = λ store at covered. covered }) (agree_phase side.ranges side.stores phase);
    rooms = subst (IsTotalOf totals) (sym (ap (λ (s : State). s.variables) state_left ∙ variables)) kept.rooms;
    policies = ap policies_of state_left ∙ policies;
  }

  -- and the set in doubt stays so
  pub engine_phase : (set : SetInDoubt) (doubt : Option (List ℕ)) → AreDoubted (first_state side) (history_in side.log) set doubt
      → IsEngine next totals after set doubt
  engine_phase set doubt d = record {
    kept = kept_phase;
    doubted =
        doubted_grown side (record { entry = entry; delta = phase_change phase }) (in_phase side.stores phase) side.ranges
        (ap (λ (s : State). part NonVolatile s.variables) state_left ∙ ap (part NonVolatile) variables) set doubt d;
  }

  -- and the call was answered
  pub answered_phase : is_change reply ≡ true → is_device_error reply ≡ false → IsAnswered side next processor index call reply
  answered_phase changes fine = record {
    right = record { same = λ _ _. sym (ap (λ (o : Reply × State). o.0) is); device = λ h. absurd (true≢false (sym h ∙ fine)) };
    change = λ _.
        record {
          delta = phase_change phase;
          log = refl;
          inside = All-nil (IsInStore side.stores);
          opening = refl;
          limit = refl;
          flushed = refl;
          wider = record { wider = λ store at covered. covered };
        };
    same = λ h. absurd (true≢false (sym changes ∙ h));
  }

-- a call that was no change was answered
pub answered_same : (side : Side) (processor index : ℕ) (call : Call) (reply : Reply) (left : State) → step (state_of side) call ≡ (reply, left)
    → is_change reply ≡ false → is_device_error reply ≡ false → IsAnswered side side processor index call reply
answered_same side processor index call reply left is same fine = record {
  right = record { same = λ _ _. sym (ap (λ (o : Reply × State). o.0) is); device = λ h. absurd (true≢false (sym h ∙ fine)) };
  change = λ h. absurd (true≢false (sym h ∙ same));
  same = λ _. refl;
}
