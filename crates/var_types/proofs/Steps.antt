-- What a call does to the state: a change is counted by one, and any other reply leaves the state.
use Rattle.std.proofs.Common.{◌≡◌, ◌+◌, Bool, true, false, refl}
use Rattle.std.specs.Prelude.{ℕ, List, [], ◌∷◌, ◌++◌, Result, Ok, Err, if◌then◌else◌, nat_le, slice_get}
use Rattle.var_types.specs.Exit.{exit_step}
use Rattle.var_types.specs.PolicyStep.{change_outcome, counted, entry_at, entry_reply, may_disable, may_lock, policy_step, register_outcome, registered}
use Rattle.var_types.specs.Set.{decided, decision, set_step}
use Rattle.var_types.specs.State.{State}
use Rattle.var_types.specs.Step.{exit_replied, is_change, lacks_memory, policy_replied, set_replied, step}
use Rattle.var_types.specs.declared.call.Call.{Call}
use Rattle.var_types.specs.declared.call.Call.TheVariants.{ExitBoot, Get, Next, Policy, Set}
use Rattle.var_types.specs.declared.call.SetCall.{SetCall}
use Rattle.var_types.specs.declared.decision.Decision.{Decision}
use Rattle.var_types.specs.declared.decision.Decision.TheVariants.{Refuse, Same, Remove, Write}
use Rattle.var_types.specs.declared.policy.Policy.{Policy as RegisteredPolicy}
use Rattle.var_types.specs.declared.policy_call.PolicyCall.{PolicyCall}
use Rattle.var_types.specs.declared.policy_call.PolicyCall.TheVariants as calls
use Rattle.var_types.specs.declared.policy_reason.PolicyReason.{PolicyReason}
use Rattle.var_types.specs.declared.policy_reason.PolicyReason.TheVariants.{HistoryFull}
use Rattle.var_types.specs.declared.policy_reply.PolicyReply.{PolicyReply}
use Rattle.var_types.specs.declared.policy_reply.PolicyReply.TheVariants as policy
use Rattle.var_types.specs.declared.reply.ExitReply.TheVariants as exit
use Rattle.var_types.specs.declared.reply.Reply.{Reply}
use Rattle.var_types.specs.declared.reply.Reply.TheVariants.{Exit as ExitReplied, Policy as PolicyReplied, Set as SetReplied}
use Rattle.var_types.specs.declared.reply.SetReply.{SetReply}
use Rattle.var_types.specs.declared.reply.SetReply.TheVariants as set

-- a change is counted by one, and any other reply leaves the state
pub record IsStep (state : State) (outcome : Reply × State) : Type 0 where
  pub counted : is_change outcome.0 ≡ true → outcome.1.made ≡ state.made + 1
  pub kept : is_change outcome.0 ≡ false → outcome.1 ≡ state

-- the same of a set's reply
abbrev pub IsSetStep : State → SetReply × State → Type 0
IsSetStep state outcome = IsStep state (set_replied outcome)

-- the same of the reply to a call about the policies
abbrev pub IsPolicyStep : State → PolicyReply × State → Type 0
IsPolicyStep state outcome = IsStep state (policy_replied outcome)

-- a set that comes to this
IsStep-decided : (state : State) (call : SetCall) (d : Decision) → IsSetStep state (decided state call d)
IsStep-decided state call (Refuse reason) = record { counted = λ h. cc; kept = λ _. refl }
IsStep-decided state call Same = record { counted = λ h. cc; kept = λ _. refl }
IsStep-decided state call (Remove store) = record { counted = λ _. refl; kept = λ h. cc }
IsStep-decided state call (Write attributes stamp skip append) = record { counted = λ _. refl; kept = λ h. cc }

-- a change of the policies that is counted, by whether the history is full
IsStep-counted : (state next : State) → IsPolicyStep state (counted state next)
IsStep-counted state next = by (nat_le state.limit state.made)
  where
    by : (full : Bool)
        → IsPolicyStep state
        (if◌then◌else◌ {A = PolicyReply × State} full (policy.Refused (HistoryFull state.made), state)
        (policy.Ok, record next { made = state.made + 1 }))
    by true = record { counted = λ h. cc; kept = λ _. refl }
    by false = record { counted = λ _. refl; kept = λ h. cc }

-- a policy that may be registered or not
IsStep-registered : (state : State) (outcome : Result RegisteredPolicy PolicyReason) → IsPolicyStep state (register_outcome state outcome)
IsStep-registered state (Err reason) = record { counted = λ h. cc; kept = λ _. refl }
IsStep-registered state (Ok p) = IsStep-counted state (record state { policies = state.policies ++ p ∷ [] })

-- another change of the policies that may be made or not
IsStep-changed : (state next : State) (may : Result (Unit {0}) PolicyReason) → IsPolicyStep state (change_outcome state next may)
IsStep-changed state next (Err reason) = record { counted = λ h. cc; kept = λ _. refl }
IsStep-changed state next (Ok u) = IsStep-counted state next

-- a reply that is no change, with the state as it was
IsStep-enabled : (state : State) (on : Bool) → IsPolicyStep state (if on then policy.On else policy.Off, state)
IsStep-enabled state true = record { counted = λ h. cc; kept = λ _. refl }
IsStep-enabled state false = record { counted = λ h. cc; kept = λ _. refl }

IsStep-entry : (state : State) (outcome : Result (List ℕ) PolicyReason) → IsPolicyStep state (entry_reply outcome, state)
IsStep-entry state (Err reason) = record { counted = λ h. cc; kept = λ _. refl }
IsStep-entry state (Ok bytes) = record { counted = λ h. cc; kept = λ _. refl }

-- a call about the policies
IsStep-policy : (state : State) (call : PolicyCall) → IsPolicyStep state (policy_step state call)
unfolding policy_step
IsStep-policy state (calls.Register bytes) = IsStep-registered state (registered state.policies state.locked bytes)
IsStep-policy state calls.Lock = IsStep-changed state (record state { locked = true }) (may_lock state.locked)
IsStep-policy state calls.Disable = IsStep-changed state (record state { policy_on = false }) (may_disable state.policy_on state.locked)
IsStep-policy state calls.Enabled = IsStep-enabled state state.policy_on
IsStep-policy state (calls.At place) = IsStep-entry state (entry_at state.policies (slice_get state.policies place))

-- the end of the boot phase, by the phase and by whether the history is full
IsStep-ended : (state : State) (runtime full : Bool)
    → IsStep state
    (exit_replied
    (if runtime then (exit.Same, state)
    else if full then (exit.HistoryFull state.made, state)
    else (exit.Ok, record state { runtime = true; made = state.made + 1 })))
IsStep-ended state true full = record { counted = λ h. cc; kept = λ _. refl }
IsStep-ended state false true = record { counted = λ h. cc; kept = λ _. refl }
IsStep-ended state false false = record { counted = λ _. refl; kept = λ h. cc }

-- what any call does to the state
pub IsStep-step : (state : State) (call : Call) → IsStep state (step state call)
unfolding step set_step exit_step
IsStep-step state (Get call) = record { counted = λ h. cc; kept = λ _. refl }
IsStep-step state (Next call) = record { counted = λ h. cc; kept = λ _. refl }
IsStep-step state (Set call) = IsStep-decided state call (decision state call)
IsStep-step state (Policy call) = IsStep-policy state call
IsStep-step state ExitBoot = IsStep-ended state state.runtime (nat_le state.limit state.made)

-- a change's call was not out of memory
pub memory_from_change : (call : Call) (reply : Reply) → is_change reply ≡ true → lacks_memory call reply ≡ false
memory_from_change (Get call) (SetReplied set.Ok) h = refl
memory_from_change (Next call) (SetReplied set.Ok) h = refl
memory_from_change (Set call) (SetReplied set.Ok) h = refl
memory_from_change (Policy call) (SetReplied set.Ok) h = refl
memory_from_change ExitBoot (SetReplied set.Ok) h = refl
memory_from_change (Get call) (PolicyReplied policy.Ok) h = refl
memory_from_change (Next call) (PolicyReplied policy.Ok) h = refl
memory_from_change (Set call) (PolicyReplied policy.Ok) h = refl
memory_from_change (Policy call) (PolicyReplied policy.Ok) h = refl
memory_from_change ExitBoot (PolicyReplied policy.Ok) h = refl
memory_from_change (Get call) (ExitReplied reply) h = refl
memory_from_change (Next call) (ExitReplied reply) h = refl
memory_from_change (Set call) (ExitReplied reply) h = refl
memory_from_change (Policy call) (ExitReplied reply) h = refl
memory_from_change ExitBoot (ExitReplied reply) h = refl
memory_from_change call reply h = cc
