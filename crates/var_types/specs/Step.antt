use Rattle.std.specs.Prelude.{Bool, true, false}
use Rattle.var_types.specs.declared.call.Call.{Call}
use Rattle.var_types.specs.declared.call.Call.TheVariants.{Get, Next, Set, Policy, ExitBoot}
use Rattle.var_types.specs.declared.reply.Reply.{Reply}
use Rattle.var_types.specs.declared.reply.Reply.TheVariants.{Get as GetReplied, Next as NextReplied, Set as SetReplied, Policy as PolicyReplied, Exit as ExitReplied}
use Rattle.var_types.specs.declared.reply.ExitReply.{ExitReply}
use Rattle.var_types.specs.declared.reply.ExitReply.TheVariants as exit
use Rattle.var_types.specs.declared.reply.GetReply.TheVariants as get
use Rattle.var_types.specs.declared.reply.NextReply.TheVariants as next
use Rattle.var_types.specs.declared.policy_reply.PolicyReply.{PolicyReply}
use Rattle.var_types.specs.declared.policy_reply.PolicyReply.TheVariants as policy
use Rattle.var_types.specs.declared.reply.SetReply.{SetReply}
use Rattle.var_types.specs.declared.reply.SetReply.TheVariants as set
use Rattle.var_types.specs.Exit.{exit_step}
use Rattle.var_types.specs.Get.{get_reply}
use Rattle.var_types.specs.Next.{next_reply}
use Rattle.var_types.specs.PolicyStep.{IsPolicyReply, policy_step, takes_memory}
use Rattle.var_types.specs.Set.{set_step}
use Rattle.var_types.specs.State.{State}

-- a set's reply among all replies, with the state it leaves
abbrev pub set_replied : SetReply × State → Reply × State
set_replied outcome = (SetReplied outcome.0, outcome.1)

-- the reply to a call about the policies among all replies, with the state it leaves
abbrev pub policy_replied : PolicyReply × State → Reply × State
policy_replied outcome = (PolicyReplied outcome.0, outcome.1)

-- the reply to the end of the boot phase among all replies, with the state it leaves
abbrev pub exit_replied : ExitReply × State → Reply × State
exit_replied outcome = (ExitReplied outcome.0, outcome.1)

-- the one-thread service: the reply to any call, and the state that it leaves (UEFI 2.10, 8.2)
unfoldable pub step : State → Call → Reply × State
step state (Get call) = (GetReplied (get_reply state call), state)
step state (Next call) = (NextReplied (next_reply state call), state)
step state (Set call) = set_replied (set_step state call)
step state (Policy call) = policy_replied (policy_step state call)
step state ExitBoot = exit_replied (exit_step state)

-- a reply is of its call's kind; the reply to a call about the policies gives no want of memory as a reason (UEFI 2.10, 8.2)
abbrev pub IsOfKind : Call → Reply → Type 0
IsOfKind (Get call) (GetReplied reply) = Unit {0}
IsOfKind (Next call) (NextReplied reply) = Unit {0}
IsOfKind (Set call) (SetReplied reply) = Unit {0}
IsOfKind (Policy call) (PolicyReplied reply) = IsPolicyReply reply
IsOfKind ExitBoot (ExitReplied reply) = Unit {0}
IsOfKind _ _ = ⊥

-- whether this reply to the call says that the call was out of memory: it is of the call's kind, and such a call takes memory (this
-- project's own)
abbrev pub lacks_memory : Call → Reply → Bool
lacks_memory (Get call) (GetReplied get.OutOfMemory) = true
lacks_memory (Next call) (NextReplied next.OutOfMemory) = true
lacks_memory (Set call) (SetReplied set.OutOfMemory) = true
lacks_memory (Policy call) (PolicyReplied policy.OutOfMemory) = takes_memory call
lacks_memory _ _ = false

-- whether a reply says that the call changed the state (this project's own)
abbrev pub is_change : Reply → Bool
is_change (SetReplied set.Ok) = true
is_change (PolicyReplied policy.Ok) = true
is_change (ExitReplied exit.Ok) = true
is_change _ = false
