-- What a call of the writer's side answers, and what it leaves of the history and of the flash.
use Rattle.std.specs.Prelude.{◌≡◌, ◌≢◌, ◌⊎◌, ℕ, ◌≤◌, true, false, List, [], ◌∷◌, ◌++◌, length, take, All, Option, Some, None, IsSome}
use Rattle.flash_dev.specs.Moments.{Stays}
use Rattle.outside.specs.Faults.{HasRisen}
use Rattle.pending_range.specs.Ranges.{IsWider}
use Rattle.var_trace.specs.StoreChange.{StoreChange}
use Rattle.var_trace.specs.StoresAfter.{history_in}
use Rattle.var_types.specs.declared.call.Call.{Call}
use Rattle.var_types.specs.declared.call.Call.TheVariants.{Set as SetCalled}
use Rattle.var_types.specs.declared.call.SetCall.{SetCall}
use Rattle.var_types.specs.declared.reply.Reply.{Reply}
use Rattle.var_types.specs.declared.reply.Reply.TheVariants.{Set as SetReplied}
use Rattle.var_types.specs.declared.reply.SetReply.{SetReply}
use Rattle.var_types.specs.declared.reply.SetReply.TheVariants.{Device, Ok as Changed}
use Rattle.var_types.specs.declared.store.Store.TheVariants.{NonVolatile}
use Rattle.var_types.specs.DeviceErrors.{IsNonVolatileChange, IsReplyIn}
use Rattle.var_types.specs.History.{Entry}
use Rattle.var_types.specs.Kept.{IsSound, content, kept}
use Rattle.var_types.specs.Layout.{headers_size}
use Rattle.var_types.specs.Set.{set_step}
use Rattle.var_types.specs.Step.{is_change}
use Rattle.var_types.specs.Stores.{part}
use Rattle.mm_writer.specs.Doubt.{SetInDoubt, variables_with}
use Rattle.mm_writer.specs.Side.{IsInStore, Side, first_state, state_of}

-- the entry of a call that a processor makes as the one of an index, if it is a change after a side's history
abbrev pub entry_after : Side → ℕ → ℕ → Call → Entry
entry_after side processor index call = record { number = length side.log; processor = processor; index = index; call = call }

-- a side with one change more: the history has this entry behind the others, with a change whose pieces lie within the stores, the pending ranges
-- cover all that they did, and what the side opened with, its limit and what the cache has are as they were (this project's own)
pub record Grows (old new : Side) (entry : Entry) : Type 0 where
  pub delta : StoreChange
  pub log : new.log ≡ old.log ++ record { entry = entry; delta = delta } ∷ []
  pub inside : All (IsInStore old.stores) delta.pieces
  pub opening : new.opening ≡ old.opening
  pub limit : new.limit ≡ old.limit
  pub flushed : new.flushed ≡ old.flushed
  pub wider : IsWider old.ranges new.ranges

-- a call was answered on a side: the reply is the one-thread service's after the side's history, or says that memory is wanting or that the flash
-- failed; a change stands in the history, once, and any other call leaves the side (this project's own)
pub record IsAnswered (old new : Side) (processor index : ℕ) (call : Call) (reply : Reply) : Type 0 where
  pub right : IsReplyIn (state_of old) call reply
  pub change : is_change reply ≡ true → Grows old new (entry_after old processor index call)
  pub same : is_change reply ≡ false → new ≡ old

-- an image keeps a side's non-volatile variables
abbrev pub IsKeptBy : Side → List ℕ → Type 0
IsKeptBy side image = kept image ≡ part NonVolatile (state_of side).variables

-- an image keeps a side's non-volatile variables, or where a set is in doubt those that it would have left at its place in the history (this project's
-- own)
abbrev pub IsKeptBut : Side → Option SetInDoubt → List ℕ → Type 0
IsKeptBut side None image = IsKeptBy side image
IsKeptBut side (Some set) image = IsKeptBy side image ⊎ (kept image ≡ variables_with (first_state side) (history_in side.log) set)

-- an image that a power loss within a set may leave: it keeps what it may have kept before, or the non-volatile variables that the set leaves, its
-- headers are as they were, and it is no foreign work unless that of before is (this project's own)
pub record IsSetLeft (side : Side) (doubt : Option SetInDoubt) (call : SetCall) (image left : List ℕ) : Type 0 where
  pub kept : IsKeptBut side doubt left ⊎ (kept left ≡ part NonVolatile (set_step (state_of side) call).1.variables)
  pub headers : take headers_size (content left) ≡ take headers_size (content image)
  pub sound : IsSound image → IsSound left

-- an image that keeps what it may have kept before
abbrev pub IsDoubtLeft : Side → Option SetInDoubt → List ℕ → List ℕ → Type 0
IsDoubtLeft side doubt image left = IsKeptBut side doubt left

-- the set of a processor that failed behind a side's history
abbrev pub failed_after : Side → ℕ → ℕ → SetCall → SetInDoubt
failed_after side processor index call = record { processor = processor; index = index; place = length side.log; call = call }

-- a heal failed on an engine: a set was in doubt and is so still, and a power loss at any moment leaves no more than it might have before (this
-- project's own)
pub record IsUnhealed {F : Type 0} (moment : F → ℕ) (left_since : F → ℕ → List ℕ → Type 0) (holds : F → Option (List ℕ)) (old new : F × (Option SetInDoubt × Side)) : Type 0 where
  pub some : IsSome old.1.0
  pub same : new.1.0 ≡ old.1.0
  pub at_any_moment : Stays (IsDoubtLeft old.1.1 old.1.0) moment left_since holds old.0 new.0

-- the cause of a set's reply: it says that the flash failed exactly where the count of failed calls rose (this project's own)
pub record HasReplyCause (before after : ℕ) (reply : SetReply) : Type 0 where
  pub done : reply ≢ Device → after ≡ before
  pub failed : reply ≡ Device → HasRisen before after
  pub never_falls : before ≤ after

-- a set was answered on an engine: the reply, the history and the side are as of any call. But for a change of a non-volatile variable and for a
-- failed flash, the flash and the set in doubt are as they were; a change leaves no doubt that was not there, and ends it where it is of a non-volatile
-- variable. A failed set is the one in doubt, unless the heal before it failed: then the same set stays so. A power loss at any moment leaves what
-- `IsSetLeft` says, and the flash failed in the set or in the heal before it exactly where the reply says so (this project's own)
pub record AnswersSet {F : Type 0} (moment : F → ℕ) (left_since : F → ℕ → List ℕ → Type 0) (holds : F → Option (List ℕ)) (fault_count : F → ℕ) (old new : F × (Option SetInDoubt × Side)) (processor index : ℕ) (call : SetCall) (reply : SetReply) : Type 0 where
  pub answered : IsAnswered old.1.1 new.1.1 processor index (SetCalled call) (SetReplied reply)
  pub untouched : reply ≢ Changed → reply ≢ Device → new.0 ≡ old.0
  pub same_doubt : reply ≢ Changed → reply ≢ Device → new.1.0 ≡ old.1.0
  pub sure : reply ≡ Changed → old.1.0 ≡ None → new.1.0 ≡ None
  pub ended : reply ≡ Changed → IsNonVolatileChange (state_of old.1.1) call → new.1.0 ≡ None
  pub volatile : reply ≡ Changed → (IsNonVolatileChange (state_of old.1.1) call → ⊥) → (new.0 ≡ old.0) × (new.1.0 ≡ old.1.0)
  pub failed : reply ≡ Device
      → (new.1.0 ≡ Some (failed_after old.1.1 processor index call)) ⊎ IsUnhealed moment left_since holds old new
  pub at_any_moment : Stays (IsSetLeft old.1.1 old.1.0 call) moment left_since holds old.0 new.0
  pub cause : HasReplyCause (fault_count old.0) (fault_count new.0) reply
