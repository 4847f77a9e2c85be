-- A run of calls on the writer's side, step by step.
use Rattle.std.specs.Prelude.{◌≡◌, ◌⊎◌, ℕ, ◌+◌, ◌-◌, ◌^◌, ◌≤◌, Bool, true, false, List, length, Option, IfSome}
use Rattle.flash_dev.specs.Moments.{Stays}
use Rattle.mm_writer.specs.Doubt.{IsInDoubt, SetInDoubt}
use Rattle.mm_writer.specs.Outcome.{IsAnswered, IsKeptBut, IsKeptBy}
use Rattle.mm_writer.specs.Side.{Side, first_state, state_of}
use Rattle.outside.specs.Faults.{HasRisen}
use Rattle.report_text.specs.Session.{history_from}
use Rattle.var_trace.specs.StoresAfter.{history_in}
use Rattle.var_types.specs.declared.answered.Answered.{Answered}
use Rattle.var_types.specs.declared.call.Call.{Call}
use Rattle.var_types.specs.declared.call.Call.TheVariants.{Set}
use Rattle.var_types.specs.declared.call.SetCall.{SetCall}
use Rattle.var_types.specs.declared.reply.Reply.{Reply}
use Rattle.var_types.specs.declared.store.Store.TheVariants.{NonVolatile}
use Rattle.var_types.specs.DeviceErrors.{is_device_error}
use Rattle.var_types.specs.Kept.{kept}
use Rattle.var_types.specs.Session.{IsLegalSession}
use Rattle.var_types.specs.Set.{set_step}
use Rattle.var_types.specs.State.{State}
use Rattle.var_types.specs.Stores.{part}
use Rattle.varsvc.specs.Runs.{AreInTurn, IsRunLeft, WasFailed, all_answered, failures}

-- an image keeps the non-volatile variables that a call, a set whose reply says that the flash failed, would have left
pub record IsFailingLeft (side : Side) (call : Call) (reply : Reply) (left : List ℕ) : Type 0 where
  pub set : SetCall
  pub is : call ≡ Set set
  pub device : is_device_error reply ≡ true
  pub kept : kept left ≡ part NonVolatile (set_step (state_of side) set).1.variables

-- an image that a power loss within a call leaves keeps what it may have kept before, or the non-volatile variables of behind the call, or those that
-- the call would have left, a set that failed
abbrev pub IsCallLeft : Side → Option SetInDoubt → Side → Call → Reply → List ℕ → List ℕ → Type 0
IsCallLeft old doubt new call reply image left = IsKeptBut old doubt left ⊎ (IsKeptBy new left ⊎ IsFailingLeft old call reply left)

-- a set in doubt is the call behind a side's history, whose reply says that the flash failed
pub record IsNewDoubt (side : Side) (call : Call) (reply : Reply) (set : SetInDoubt) : Type 0 where
  pub is : call ≡ Set set.call
  pub device : is_device_error reply ≡ true
  pub place : set.place ≡ length side.log

-- the count of failed calls of the flash by whether a reply says so
pub record HasFlashCause (failed : Bool) (before now : ℕ) : Type 0 where
  pub done : failed ≡ false → now ≡ before
  pub rose : failed ≡ true → HasRisen before now
  pub never_falls : before ≤ now

-- a call of a processor was answered on the writer's side with its flash: the set in doubt behind it is the one before, or none, or the call
pub record Serves {F : Type 0} (fault_count moment : F → ℕ) (left_since : F → ℕ → List ℕ → Type 0) (holds : F → Option (List ℕ))
    (old new : F × (Option SetInDoubt × Side)) (processor index : ℕ) (call : Call) (reply : Reply) : Type 0 where
  pub answered : IsAnswered old.1.1 new.1.1 processor index call reply
  pub cause : HasFlashCause (is_device_error reply) (fault_count old.0) (fault_count new.0)
  pub before : IfSome old.1.0 (IsInDoubt (first_state old.1.1) (history_in old.1.1.log))
  pub doubt : (new.1.0 ≡ old.1.0) ⊎ IfSome new.1.0 (IsNewDoubt old.1.1 call reply)
  pub at_any_moment : Stays (IsCallLeft old.1.1 old.1.0 new.1.1 call reply) moment left_since holds old.0 new.0

-- an image that a power loss within the calls so far leaves
abbrev pub IsLeftSoFar : State → List (List Answered) → List ℕ → List ℕ → Type 0
IsLeftSoFar first processors image left = IsRunLeft first (history_from 0 processors) (all_answered processors) left

-- what the calls of processors so far have come to, from a state and a flash on
pub record HasRun {F : Type 0} (fault_count moment : F → ℕ) (left_since : F → ℕ → List ℕ → Type 0) (holds : F → Option (List ℕ)) (first : State)
    (flash : F) (engine : F × (Option SetInDoubt × Side)) (processors : List (List Answered)) : Type 0 where
  pub opened : first_state engine.1.1 ≡ first
  pub log : history_in engine.1.1.log ≡ history_from 0 processors
  pub legal : IsLegalSession first (history_from 0 processors) processors
  pub in_turn : AreInTurn 0 (all_answered processors)
  pub calm : failures (all_answered processors) ≡ 0 → fault_count engine.0 ≡ fault_count flash
  pub failed : (fault_count flash + failures (all_answered processors) ≤ fault_count engine.0) ⊎ (2 ^ 64 - 1 ≤ fault_count engine.0)
  pub never_falls : fault_count flash ≤ fault_count engine.0
  pub doubt : IfSome engine.1.0 (WasFailed (all_answered processors))
  pub at_any_moment : Stays (IsLeftSoFar first processors) moment left_since holds flash engine.0
