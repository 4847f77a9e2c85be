-- When a call may answer that the flash failed (UEFI 2.10, 8.2.3, EFI_DEVICE_ERROR).
use Rattle.std.specs.Prelude.{◌≡◌, ◌⊎◌, Bool, true, false, IsSomeAnd}
use Rattle.var_types.specs.declared.call.Call.{Call}
use Rattle.var_types.specs.declared.call.Call.TheVariants.{Set}
use Rattle.var_types.specs.declared.call.SetCall.{SetCall}
use Rattle.var_types.specs.declared.key.Key.{Key}
use Rattle.var_types.specs.declared.reply.Reply.{Reply}
use Rattle.var_types.specs.declared.reply.Reply.TheVariants.{Set as SetReplied}
use Rattle.var_types.specs.declared.reply.SetReply.TheVariants.{Device, Ok as Changed}
use Rattle.var_types.specs.Attributes.{has, non_volatile_bit}
use Rattle.var_types.specs.Reading.{set_key}
use Rattle.var_types.specs.Set.{set_step}
use Rattle.var_types.specs.State.{State, stored_at}
use Rattle.var_types.specs.Step.{lacks_memory, step}

-- whether a reply says that the flash failed
abbrev pub is_device_error : Reply → Bool
is_device_error (SetReplied Device) = true
is_device_error _ = false

-- a non-volatile variable is stored at a key
abbrev pub HasNonVolatile : State → Key → Type 0
HasNonVolatile state key = IsSomeAnd (stored_at state key) (λ variable. has variable.attributes non_volatile_bit ≡ true)

-- a set that the rule answers by a change, where the stored or the resulting variable is non-volatile (UEFI 2.10, 8.2.3)
pub record IsNonVolatileChange (state : State) (call : SetCall) : Type 0 where
  pub changes : (set_step state call).0 ≡ Changed
  pub non_volatile : HasNonVolatile state (set_key call) ⊎ HasNonVolatile (set_step state call).1 (set_key call)

-- a call in which the flash may fail: a set that changes a non-volatile variable
abbrev pub MayFail : State → Call → Type 0
MayFail state (Set call) = IsNonVolatileChange state call
MayFail state _ = ⊥

-- a reply to a call is the one-thread service's in a state, or says that the call was out of memory, or says, where that may be, that the
-- flash failed (this project's own)
pub record IsReplyIn (state : State) (call : Call) (reply : Reply) : Type 0 where
  pub same : lacks_memory call reply ≡ false → is_device_error reply ≡ false → reply ≡ (step state call).0
  pub device : is_device_error reply ≡ true → MayFail state call
