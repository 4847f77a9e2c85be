-- The outcomes of the calls that write no bytes: the end of the boot phase, and calls about the policies.
use Rattle.std.proofs.Common.{◌≡◌, ℕ, ◌+◌, ◌<◌, ◌≤◌, Bool, true, false, List, [], ◌∷◌, ◌++◌, length, Ok, Err, refl, sym, ap, subst, ◌∙◌, true≢false, arith}
use Rattle.std.specs.Prelude.{Result, nat_le, slice_get, if◌then◌else◌}
use Rattle.std.proofs.lemmas.Bool.{le-leb, leb-false, lt-leb}
use Rattle.mm_writer.proofs.Phases.{answered_same}
use Rattle.mm_writer.specs.Engine.{IsKept}
use Rattle.mm_writer.specs.Outcome.{IsAnswered}
use Rattle.mm_writer.specs.Side.{Side, state_of}
use Rattle.policy_table.specs.Answers.{state_with}
use Rattle.policy_table.specs.PolicyState.{PolicyState, policies_of}
use Rattle.set_rules.specs.declared.room_totals.RoomTotals.{RoomTotals}
use Rattle.var_types.proofs.Steps.{IsStep, IsStep-step}
use Rattle.var_types.specs.declared.call.Call.TheVariants.{ExitBoot, Policy as PolicyCalled}
use Rattle.var_types.specs.declared.policy.Policy.{Policy}
use Rattle.var_types.specs.declared.policy_call.PolicyCall.{PolicyCall}
use Rattle.var_types.specs.declared.policy_call.PolicyCall.TheVariants.{At, Disable, Enabled, Lock, Register}
use Rattle.var_types.specs.declared.policy_reason.PolicyReason.{PolicyReason}
use Rattle.var_types.specs.declared.policy_reason.PolicyReason.TheVariants.{HistoryFull as FullHistory}
use Rattle.var_types.specs.declared.policy_reply.PolicyReply.{PolicyReply}
use Rattle.var_types.specs.declared.policy_reply.PolicyReply.TheVariants.{Off, Ok as Changed, On, Refused}
use Rattle.var_types.specs.declared.reply.ExitReply.{ExitReply}
use Rattle.var_types.specs.declared.reply.ExitReply.TheVariants.{HistoryFull, Ok as Ended, Same}
use Rattle.var_types.specs.declared.reply.Reply.TheVariants.{Exit as ExitReplied, Policy as PolicyReplied}
use Rattle.var_types.specs.Exit.{exit_step}
use Rattle.var_types.specs.PolicyStep.{change_outcome, counted, entry_at, entry_reply, may_disable, may_lock, policy_step, register_outcome, registered}
use Rattle.var_types.specs.State.{State}
use Rattle.var_types.specs.Step.{exit_replied, is_change, lacks_memory, policy_replied, step}

-- ---- the end of the boot phase

-- what it comes to, by the phase and by whether the history is full
abbrev ended_by : State → Bool → Bool → ExitReply × State
ended_by state runtime full =
    if runtime then (Same, state)
    else if full then (HistoryFull state.made, state)
    else (Ended, record state { runtime = true; made = state.made + 1 })

module _ (state : State) where
  exit_by : step state ExitBoot ≡ exit_replied (ended_by state state.runtime (nat_le state.limit state.made))
  unfolding step exit_step
  exit_by = refl

  pub exit_same : state.runtime ≡ true → step state ExitBoot ≡ (ExitReplied Same, state)
  exit_same at = exit_by ∙ ap (λ runtime. exit_replied (ended_by state runtime (nat_le state.limit state.made))) at

  pub exit_full : state.runtime ≡ false → state.limit ≤ state.made → step state ExitBoot ≡ (ExitReplied (HistoryFull state.made), state)
  exit_full before full = exit_by ∙ (λ i. exit_replied (ended_by state (before i) (le-leb state.limit state.made full i)))

  pub exit_ends : state.runtime ≡ false → state.made < state.limit
      → step state ExitBoot ≡ (ExitReplied Ended, record state { runtime = true; made = state.made + 1 })
  exit_ends before more = exit_by ∙ (λ i. exit_replied (ended_by state (before i) (lt-leb state.limit state.made more i)))

-- ---- calls about the policies

-- a change of the policies has room in the history
abbrev HasRoom : State → PolicyReply × State → Type 0
HasRoom state outcome = is_change (PolicyReplied outcome.0) ≡ true → state.made < state.limit

room_counted : (state next : State) → HasRoom state (counted state next)
room_counted state next = by (nat_le state.limit state.made) refl
  where
    by : (full : Bool) → nat_le state.limit state.made ≡ full
        → HasRoom state
        (if◌then◌else◌ {A = PolicyReply × State} full (Refused (FullHistory state.made), state)
        (Changed, record next { made = state.made + 1 }))
    by true e = λ h. cc
    by false e = λ h. leb-false state.limit state.made e

room_registered : (state : State) (outcome : Result Policy PolicyReason) → HasRoom state (register_outcome state outcome)
room_registered state (Err reason) = λ h. cc
room_registered state (Ok p) = room_counted state (record state { policies = state.policies ++ p ∷ [] })

room_changed : (state next : State) (may : Result (Unit {0}) PolicyReason) → HasRoom state (change_outcome state next may)
room_changed state next (Err reason) = λ h. cc
room_changed state next (Ok u) = room_counted state next

room_enabled : (state : State) (on : Bool) → HasRoom state (if on then On else Off, state)
room_enabled state true = λ h. cc
room_enabled state false = λ h. cc

room_entry : (state : State) (outcome : Result (List ℕ) PolicyReason) → HasRoom state (entry_reply outcome, state)
room_entry state (Err reason) = λ h. cc
room_entry state (Ok bytes) = λ h. cc

room_policy : (state : State) (call : PolicyCall) → HasRoom state (policy_step state call)
unfolding policy_step
room_policy state (Register bytes) = room_registered state (registered state.policies state.locked bytes)
room_policy state Lock = room_changed state (record state { locked = true }) (may_lock state.locked)
room_policy state Disable = room_changed state (record state { policy_on = false }) (may_disable state.policy_on state.locked)
room_policy state Enabled = room_enabled state state.policy_on
room_policy state (At place) = room_entry state (entry_at state.policies (slice_get state.policies place))

module _ (side : Side) (totals : RoomTotals) (table : PolicyState) (kept : IsKept side totals table) (call : PolicyCall) (reply : PolicyReply) (after : PolicyState) (count made limit : ℕ) (counts : count ≡ length side.log) (limits : limit ≡ side.limit) (is : policy_step (state_with (state_of side) table count limit) call ≡ (reply, state_with (state_of side) after made limit)) where
  -- the state that it leaves
  abbrev pub left_by : State
  left_by = state_with (state_of side) after made limit

  state_is : state_with (state_of side) table count limit ≡ state_of side
  state_is = λ i. state_with (state_of side) (sym kept.policies i) ((counts ∙ sym kept.consistent.made) i) ((limits ∙ sym kept.consistent.limit) i)

  step_of : policy_step (state_of side) call ≡ (reply, left_by)
  step_of = ap (λ (s : State). policy_step s call) (sym state_is) ∙ is

  pub policy_is : step (state_of side) (PolicyCalled call) ≡ (PolicyReplied reply, left_by)
  unfolding step
  policy_is = ap policy_replied step_of

  stepped : IsStep (state_of side) (PolicyReplied reply, left_by)
  stepped = subst (IsStep (state_of side)) policy_is (IsStep-step (state_of side) (PolicyCalled call))

  -- a change is counted, and has room
  pub policy_counted : is_change (PolicyReplied reply) ≡ true → left_by.made ≡ (state_of side).made + 1
  policy_counted changes = stepped.counted changes

  pub policy_room : is_change (PolicyReplied reply) ≡ true → length side.log < side.limit
  policy_room changes =
      let room = room_policy (state_of side) call (ap (λ (o : PolicyReply × State). is_change (PolicyReplied o.0)) step_of ∙ changes) in
      omega (arith, room, kept.consistent.made, kept.consistent.limit)

  pub policy_limit : left_by.limit ≡ (state_of side).limit
  policy_limit = limits ∙ sym kept.consistent.limit

  -- any other call leaves the policies
  pub policy_same : is_change (PolicyReplied reply) ≡ false → IsKept side totals after
  policy_same same = record {
    consistent = kept.consistent;
    rooms = kept.rooms;
    policies = sym (ap policies_of (stepped.kept same));
  }

-- a call about the policies that was no change, or was out of memory, was answered
pub policy_unchanged : (side : Side) (totals : RoomTotals) (table : PolicyState) → IsKept side totals table → (processor index : ℕ) (call : PolicyCall) (reply : PolicyReply) (after : PolicyState) (count made limit : ℕ)
    → count ≡ length side.log → limit ≡ side.limit
    → (lacks_memory (PolicyCalled call) (PolicyReplied reply) ≡ false
    → policy_step (state_with (state_of side) table count limit) call ≡ (reply, state_with (state_of side) after made limit))
    → (lacks_memory (PolicyCalled call) (PolicyReplied reply) ≡ true → after ≡ table) → is_change (PolicyReplied reply) ≡ false
    → IsKept side totals after × IsAnswered side side processor index (PolicyCalled call) (PolicyReplied reply)
policy_unchanged side totals table kept processor index call reply after count made limit counts limits done memory same =
    by (lacks_memory (PolicyCalled call) (PolicyReplied reply)) refl
  where
    by : (lacks : Bool) → lacks_memory (PolicyCalled call) (PolicyReplied reply) ≡ lacks
        → IsKept side totals after × IsAnswered side side processor index (PolicyCalled call) (PolicyReplied reply)
    by true e = (
      subst (IsKept side totals) (sym (memory e)) kept,
      record {
        right = record { same = λ has _. absurd (true≢false (sym e ∙ has)); device = λ h. absurd (true≢false (sym h)) };
        change = λ h. absurd (true≢false (sym h ∙ same));
        same = λ _. refl;
      },
    )
    by false e = (
      policy_same side totals table kept call reply after count made limit counts limits (done e) same,
      answered_same side processor index (PolicyCalled call) (PolicyReplied reply) (state_with (state_of side) after made limit)
          (policy_is side totals table kept call reply after count made limit counts limits (done e)) same refl,
    )
