-- The one-thread service never answers that the flash failed.
use Rattle.std.proofs.Common.{◌≡◌, true, false, refl, ap, sym, ◌∙◌}
use Rattle.var_types.specs.DeviceErrors.{IsReplyIn, is_device_error}
use Rattle.var_types.specs.Set.{decided, decision, set_step}
use Rattle.var_types.specs.State.{State}
use Rattle.var_types.specs.Step.{lacks_memory, set_replied, step}
use Rattle.var_types.specs.declared.call.Call.{Call}
use Rattle.var_types.specs.declared.call.Call.TheVariants.{ExitBoot, Get, Next, Policy, Set}
use Rattle.var_types.specs.declared.call.SetCall.{SetCall}
use Rattle.var_types.specs.declared.decision.Decision.{Decision}
use Rattle.var_types.specs.declared.decision.Decision.TheVariants.{Refuse, Same, Remove, Write}
use Rattle.var_types.specs.declared.reply.Reply.{Reply}
use Rattle.var_types.specs.declared.reply.Reply.TheVariants.{Set as SetReplied}
use Rattle.var_types.specs.declared.reply.SetReply.TheVariants as set

-- nor does a set that comes to this
no_device_decided : (state : State) (call : SetCall) (d : Decision) → is_device_error (set_replied (decided state call d)).0 ≡ false
no_device_decided state call (Refuse reason) = refl
no_device_decided state call Same = refl
no_device_decided state call (Remove store) = refl
no_device_decided state call (Write attributes stamp skip append) = refl

-- the one-thread service never answers that the flash failed
pub no_device_step : (state : State) (call : Call) → is_device_error (step state call).0 ≡ false
unfolding step set_step
no_device_step state (Get call) = refl
no_device_step state (Next call) = refl
no_device_step state (Set call) = no_device_decided state call (decision state call)
no_device_step state (Policy call) = refl
no_device_step state ExitBoot = refl

-- a call in which the flash failed was not out of memory
pub memory_from_device : (call : Call) (reply : Reply) → is_device_error reply ≡ true → lacks_memory call reply ≡ false
memory_from_device (Get call) (SetReplied set.Device) h = refl
memory_from_device (Next call) (SetReplied set.Device) h = refl
memory_from_device (Set call) (SetReplied set.Device) h = refl
memory_from_device (Policy call) (SetReplied set.Device) h = refl
memory_from_device ExitBoot (SetReplied set.Device) h = refl
memory_from_device call reply h = cc

-- a reply that is the service's, unless its call was out of memory
pub IsReplyIn-stepped : (state : State) (call : Call) (reply : Reply) → (lacks_memory call reply ≡ false → reply ≡ (step state call).0)
    → IsReplyIn state call reply
IsReplyIn-stepped state call reply right = record {
  same = λ had done. right had;
  device = λ failed.
      let none : is_device_error reply ≡ false = ap is_device_error (right (memory_from_device call reply failed)) ∙ no_device_step state call in
      let lost : true ≡ false = sym failed ∙ none in cc;
}
