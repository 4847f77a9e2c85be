-- Every state that changes lead to from a sound one is sound.
use Rattle.std.proofs.Common.{◌≡◌, ◌+◌, Bool, true, false, List, [], ◌∷◌, ◌++◌, refl, subst, sym}
use Rattle.std.proofs.lemmas.List.Elements.{All-nil}
use Rattle.std.proofs.lemmas.Map.Views.{All-keys-insert_entry, All-map-remove_entry}
use Rattle.std.specs.BTreeMap.{is_at}
use Rattle.std.specs.List.Sorted.{IsStrictlySortedBy}
use Rattle.std.specs.Map.{keys_of}
use Rattle.std.specs.Prelude.{ℕ, All, drop, if◌then◌else◌, nat_le, Result, Ok, Err}
use Rattle.var_types.proofs.Keys.{key_cmp_total}
use Rattle.var_types.proofs.Orders.{sorted-insert_entry, sorted-remove_entry}
use Rattle.var_types.specs.Exit.{exit_step}
use Rattle.var_types.specs.History.{Entry, run}
use Rattle.var_types.specs.Key.{key_cmp}
use Rattle.var_types.specs.Name.{name_check}
use Rattle.var_types.specs.PolicyStep.{change_outcome, counted, may_disable, may_lock, policy_step, register_outcome, registered}
use Rattle.var_types.specs.Reading.{Reading, reading_of, set_key}
use Rattle.var_types.specs.Set.{cases, change_of, decided, decision, first_of, set_step, variable_by}
use Rattle.var_types.specs.SetCases.{name_case}
use Rattle.var_types.specs.State.{State, start, stored_at}
use Rattle.var_types.specs.Step.{step}
use Rattle.var_types.specs.Walk.{IsSound, IsWellFormed}
use Rattle.var_types.specs.declared.call.Call.{Call}
use Rattle.var_types.specs.declared.call.Call.TheVariants.{ExitBoot, Get, Next, Policy, Set}
use Rattle.var_types.specs.declared.call.SetCall.{SetCall}
use Rattle.var_types.specs.declared.decision.Decision.{Decision}
use Rattle.var_types.specs.declared.decision.Decision.TheVariants.{Refuse, Same, Remove, Write}
use Rattle.var_types.specs.declared.name.NameFault.{NameFault}
use Rattle.var_types.specs.declared.key.Key.{Key}
use Rattle.var_types.specs.declared.policy.Policy.{Policy as RegisteredPolicy}
use Rattle.var_types.specs.declared.policy_call.PolicyCall.{PolicyCall}
use Rattle.var_types.specs.declared.policy_call.PolicyCall.TheVariants as calls
use Rattle.var_types.specs.declared.policy_reason.PolicyReason.{PolicyReason}
use Rattle.var_types.specs.declared.policy_reason.PolicyReason.TheVariants.{HistoryFull}
use Rattle.var_types.specs.declared.policy_reply.PolicyReply.{PolicyReply}
use Rattle.var_types.specs.declared.policy_reply.PolicyReply.TheVariants as policy
use Rattle.var_types.specs.declared.reply.ExitReply.{ExitReply}
use Rattle.var_types.specs.declared.reply.ExitReply.TheVariants as exit
use Rattle.var_types.specs.declared.variable.Variable.{Variable}

-- a start with no variable is sound
pub IsSound-start : (limit : ℕ) → IsSound (start [] limit)
unfolding IsStrictlySortedBy
IsSound-start limit = record { ordered = tt; named = All-nil (λ key. IsWellFormed key.name) }

module _ (state : State) (sound : IsSound state) where
  -- a set under a well-formed name, by what it comes to
  IsSound-decided : (call : SetCall) → IsWellFormed call.name → (d : Decision) → IsSound (decided state call d).1
  IsSound-decided call well (Refuse reason) = sound
  IsSound-decided call well Same = sound
  IsSound-decided call well (Remove store) = record {
    ordered = sorted-remove_entry key_cmp (is_at (key_cmp (set_key call))) state.variables sound.ordered;
    named = All-map-remove_entry (is_at (key_cmp (set_key call))) (λ e. e.0) (λ key. IsWellFormed key.name) state.variables sound.named;
  }
  IsSound-decided call well (Write attributes stamp skip append) =
      let made = variable_by call (stored_at state (set_key call)) attributes stamp skip append in
      record {
        ordered = sorted-insert_entry key_cmp_total (set_key call) made state.variables sound.ordered;
        named = All-keys-insert_entry key_cmp (set_key call) made (λ key. IsWellFormed key.name) state.variables sound.named well;
      }

  -- a set, by the first case of the rule: under an ill-formed name it changes nothing
  IsSound-set : (call : SetCall) → IsSound (set_step state call).1
  unfolding set_step decision name_case
  IsSound-set call = by (name_check call.name) refl
    where
      set : Reading
      set = reading_of state call

      by : (named : Result (Unit {0}) NameFault) → name_check call.name ≡ named
          → IsSound (decided state call (first_of (change_of set) (name_case named ∷ drop 1 (cases state set)))).1
      by (Err fault) well = sound
      by (Ok u) well = IsSound-decided call well (first_of (change_of set) (drop 1 (cases state set)))

  -- the end of the boot phase, by the phase and by whether the history is full
  IsSound-ended : (runtime full : Bool)
      → IsSound
      (if◌then◌else◌ {A = ExitReply × State} runtime (exit.Same, state)
      (if full then (exit.HistoryFull state.made, state)
      else (exit.Ok, record state { runtime = true; made = state.made + 1 }))).1
  IsSound-ended true full = sound
  IsSound-ended false true = sound
  IsSound-ended false false = record { ordered = sound.ordered; named = sound.named }

  -- a state with the same variables is sound
  IsSound-same : (next : State) → next.variables ≡ state.variables → IsSound next
  IsSound-same next same = record {
    ordered = subst (λ (vs : List (Key × Variable)). IsStrictlySortedBy key_cmp (keys_of vs)) (sym same) sound.ordered;
    named = subst (λ (vs : List (Key × Variable)). All (λ key. IsWellFormed key.name) (keys_of vs)) (sym same) sound.named;
  }

  -- a change of the policies that is counted, by whether the history is full
  IsSound-counted : (next : State) → next.variables ≡ state.variables → IsSound (counted state next).1
  IsSound-counted next same = by (nat_le state.limit state.made)
    where
      by : (full : Bool)
          → IsSound
          (if◌then◌else◌ {A = PolicyReply × State} full (policy.Refused (HistoryFull state.made), state)
          (policy.Ok, record next { made = state.made + 1 })).1
      by true = sound
      by false = IsSound-same (record next { made = state.made + 1 }) same

  IsSound-registered : (outcome : Result RegisteredPolicy PolicyReason) → IsSound (register_outcome state outcome).1
  IsSound-registered (Err reason) = sound
  IsSound-registered (Ok p) = IsSound-counted (record state { policies = state.policies ++ p ∷ [] }) refl

  IsSound-changed : (next : State) → next.variables ≡ state.variables → (may : Result (Unit {0}) PolicyReason)
      → IsSound (change_outcome state next may).1
  IsSound-changed next same (Err reason) = sound
  IsSound-changed next same (Ok u) = IsSound-counted next same

  -- a call about the policies leaves the variables
  IsSound-policy : (call : PolicyCall) → IsSound (policy_step state call).1
  unfolding policy_step
  IsSound-policy (calls.Register bytes) = IsSound-registered (registered state.policies state.locked bytes)
  IsSound-policy calls.Lock = IsSound-changed (record state { locked = true }) refl (may_lock state.locked)
  IsSound-policy calls.Disable = IsSound-changed (record state { policy_on = false }) refl (may_disable state.policy_on state.locked)
  IsSound-policy calls.Enabled = sound
  IsSound-policy (calls.At place) = sound

  -- any call leaves a sound state
  pub IsSound-step : (call : Call) → IsSound (step state call).1
  unfolding step exit_step
  IsSound-step (Get call) = sound
  IsSound-step (Next call) = sound
  IsSound-step (Set call) = IsSound-set call
  IsSound-step (Policy call) = IsSound-policy call
  IsSound-step ExitBoot = IsSound-ended state.runtime (nat_le state.limit state.made)

-- changes leave a sound state
pub IsSound-run : (state : State) (history : List Entry) → IsSound state → IsSound (run state history)
IsSound-run state [] sound = sound
IsSound-run state (entry ∷ entries) sound = IsSound-run (step state entry.call).1 entries (IsSound-step state sound entry.call)
