-- A reply that the one-thread service gives, or that says that its call was out of memory, is of its call's kind.
use Rattle.std.proofs.Common.{◌≡◌, Bool, true, false, List, [], ◌∷◌, refl, sym, subst}
use Rattle.std.proofs.lemmas.List.Elements.{All-cons, All-nil}
use Rattle.std.specs.Prelude.{All}
use Rattle.var_types.proofs.PolicyReplies.{IsPolicyReply-step}
use Rattle.var_types.specs.declared.answered.Answered.{Answered}
use Rattle.var_types.specs.declared.call.Call.{Call}
use Rattle.var_types.specs.declared.call.Call.TheVariants.{ExitBoot, Get, Next, Policy, Set}
use Rattle.var_types.specs.declared.policy_reply.PolicyReply.TheVariants as policy
use Rattle.var_types.specs.declared.reply.Reply.{Reply}
use Rattle.var_types.specs.declared.reply.Reply.TheVariants.{Get as GetReplied, Next as NextReplied, Policy as PolicyReplied, Set as SetReplied}
use Rattle.var_types.specs.DeviceErrors.{IsReplyIn, MayFail, is_device_error}
use Rattle.var_types.specs.Session.{AreStepped, state_after}
use Rattle.var_types.specs.State.{State}
use Rattle.var_types.specs.Step.{IsOfKind, lacks_memory, step}

-- the one-thread service's reply
IsOfKind-step : (state : State) (call : Call) → IsOfKind call (step state call).0
unfolding step
IsOfKind-step state (Get call) = tt
IsOfKind-step state (Next call) = tt
IsOfKind-step state (Set call) = tt
IsOfKind-step state (Policy call) = IsPolicyReply-step state call
IsOfKind-step state ExitBoot = tt

-- a reply that says that its call was out of memory
IsOfKind-memory : (call : Call) (reply : Reply) → lacks_memory call reply ≡ true → IsOfKind call reply
IsOfKind-memory (Get call) (GetReplied reply) h = tt
IsOfKind-memory (Next call) (NextReplied reply) h = tt
IsOfKind-memory (Set call) (SetReplied reply) h = tt
IsOfKind-memory (Policy call) (PolicyReplied policy.OutOfMemory) h = tt
IsOfKind-memory call reply h = cc

-- a reply that says that the flash failed, to a call in which it may fail
IsOfKind-device : (state : State) (call : Call) (reply : Reply) → is_device_error reply ≡ true → MayFail state call → IsOfKind call reply
IsOfKind-device state (Set call) (SetReplied reply) h may = tt
IsOfKind-device state (Set call) reply h may = cc
IsOfKind-device state (Get call) reply h may = absurd may
IsOfKind-device state (Next call) reply h may = absurd may
IsOfKind-device state (Policy call) reply h may = absurd may
IsOfKind-device state ExitBoot reply h may = absurd may

-- a reply in a state
pub IsOfKind-reply : (state : State) (call : Call) (reply : Reply) → IsReplyIn state call reply → IsOfKind call reply
IsOfKind-reply state call reply right = by (lacks_memory call reply) (is_device_error reply) refl refl
  where
    by : (memory device : Bool) → lacks_memory call reply ≡ memory → is_device_error reply ≡ device → IsOfKind call reply
    by true device e d = IsOfKind-memory call reply e
    by false true e d = IsOfKind-device state call reply d (right.device d)
    by false false e d = subst (IsOfKind call) (sym (right.same e d)) (IsOfKind-step state call)

-- a reply that is the service's, unless its call was out of memory
pub IsOfKind-answer : (state : State) (call : Call) (reply : Reply) → (lacks_memory call reply ≡ false → reply ≡ (step state call).0)
    → IsOfKind call reply
IsOfKind-answer state call reply right = by (lacks_memory call reply) refl
  where
    by : (memory : Bool) → lacks_memory call reply ≡ memory → IsOfKind call reply
    by true e = IsOfKind-memory call reply e
    by false e = subst (IsOfKind call) (sym (right e)) (IsOfKind-step state call)

-- the replies of stepped calls
pub IsOfKind-stepped : (state : State) (answered : List Answered) → AreStepped state answered → All (λ a. IsOfKind a.call a.reply) answered
IsOfKind-stepped state [] stepped = All-nil (λ a. IsOfKind a.call a.reply)
IsOfKind-stepped state (a ∷ rest) stepped =
    All-cons (λ a. IsOfKind a.call a.reply) a rest (IsOfKind-answer state a.call a.reply stepped.2)
    (IsOfKind-stepped (state_after state a) rest stepped.3)
