use Rattle.std.specs.Prelude.{◌≡◌, ℕ, ◌≤◌, List, [], ◌∷◌, true, take, length, slice_get, Some}
use Rattle.var_types.specs.declared.call.Call.{Call}
use Rattle.var_types.specs.declared.reply.Reply.{Reply}
use Rattle.var_types.specs.DeviceErrors.{IsReplyIn}
use Rattle.var_types.specs.State.{State}
use Rattle.var_types.specs.Step.{step, is_change}

-- a change of the history: its number, and the processor and the index of the call that made it (this project's own)
pub record Entry : Type 0 where
  pub number : ℕ
  pub processor : ℕ
  pub index : ℕ
  pub call : Call

-- a state after these changes, one after the other (this project's own)
abbrev pub run : State → List Entry → State
run state [] = state
run state (entry ∷ entries) = run (step state entry.call).1 entries

-- a state after the first k changes of a history (this project's own)
abbrev pub after : State → List Entry → ℕ → State
after state history k = run state (take k history)

-- the reply to a processor's call is right at a place of a history: it is the one-thread service's there, and a change is the history's
-- entry there; that the call was out of memory is right anywhere, and that the flash failed where a set would change a non-volatile variable,
-- both as no change (this project's own)
pub record IsRightAt (state : State) (history : List Entry) (place processor index : ℕ) (call : Call) (reply : Reply) : Type 0 where
  pub in_history : place ≤ length history
  pub reply_is : IsReplyIn (after state history place) call reply
  pub one_entry : is_change reply ≡ true
      → slice_get history place ≡ Some (record { number = place; processor = processor; index = index; call = call })
