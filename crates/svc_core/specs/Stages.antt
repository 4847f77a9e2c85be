-- What a point says of its processor: which words and locks it holds, what it has loaded, found and formed.
use Rattle.std.specs.Prelude.{ℕ, Bool, true, false, List, if◌then◌else◌, Option, Some, None}
use Rattle.var_trace.specs.declared.change.Change.{Change}
use Rattle.var_types.specs.declared.answered.Route.{Route}
use Rattle.var_types.specs.declared.answered.Route.TheVariants.{Cache, Merged, Writer as Asked, Flushed, Deferred}
use Rattle.var_types.specs.declared.reply.Reply.{Reply}
use Rattle.var_types.specs.Step.{is_change}
use Rattle.svc_core.specs.declared.flash_step.FlashStep.{FlashStep}
use Rattle.svc_core.specs.declared.point.Point.{Point}
use Rattle.svc_core.specs.declared.point.Point.TheVariants.{Start, LoadMade, LoadHeld, TakeCache, Look, Unlock}
use Rattle.svc_core.specs.declared.point.Point.TheVariants.{MergeEnter, MergeLoadMade, MergeTakeCache, Merge, MergePutCache, MergeLeave, MergeUnlock}
use Rattle.svc_core.specs.declared.point.Point.TheVariants.{AskEnter, AskLook, AskLeave, Decide, Write, TryLock}
use Rattle.svc_core.specs.declared.point.Point.TheVariants.{FlushTakeCache, Flush, FlushSwapHeld, FlushPutCache, FlushUnlock, Defer, Leave}

-- the lock word in a reader's hand: not its own; just taken; made was loaded; held is this number, and the cache is in its slot or not; held is
-- behind the made that was loaded (this project's own)
pub data Grip : Type 0 where
  free : Grip
  took : Grip
  saw : (made : ℕ) → Grip
  level : (held : ℕ) (home : Bool) → Grip
  behind : (made held : ℕ) (home : Bool) → Grip

abbrev pub grip : Point → Grip
grip LoadMade = took
grip (LoadHeld made) = saw made
grip (TakeCache place) = level place true
grip (Look place) = level place false
grip (Unlock place reply) = level place true
grip (MergeEnter made held) = behind made held true
grip (MergeLoadMade made held) = behind made held true
grip (MergeTakeCache made held place) = behind made held true
grip (Merge made held place) = behind made held false
grip (MergePutCache made held place reply) = level place false
grip (MergeLeave made held place reply) = level place true
grip (MergeUnlock made held place reply) = level place true
grip _ = free

-- the writer's lock in a processor's hand: not its own; with nothing planned; made was loaded; a change is planned; the history has it, and made is
-- yet to be raised (this project's own)
pub data Stage : Type 0 where
  away : Stage
  calm : Stage
  counted : (made : ℕ) → Stage
  plans : (place : ℕ) (reply : Reply) (steps : List FlashStep) (change : Change) → Stage
  ahead : (place : ℕ) → Stage

abbrev pub stage : Point → Stage
stage (MergeLoadMade made held) = calm
stage (MergeTakeCache made held place) = counted place
stage (Merge made held place) = counted place
stage (MergePutCache made held place reply) = counted place
stage (MergeLeave made held place reply) = counted place
stage (AskLook holder) = calm
stage (AskLeave holder place reply) = counted place
stage Decide = calm
stage (Write place reply steps change) = plans place reply steps change
stage (TryLock place reply) = ahead place
stage (FlushTakeCache place reply) = ahead place
stage (Flush place reply) = ahead place
stage (FlushSwapHeld place reply) = calm
stage (FlushPutCache place reply) = calm
stage (FlushUnlock place reply) = calm
stage (Defer place reply holder) = ahead place
stage (Leave place reply route) = calm
stage _ = away

-- the lock word in the writer's hand: not; or so, with the cache in its slot or not, and merged and not yet swapped or not (this project's own)
pub data Flushing : Type 0 where
  off : Flushing
  on : (home merged : Bool) → Flushing

abbrev pub flushing : Point → Flushing
flushing (FlushTakeCache place reply) = on true false
flushing (Flush place reply) = on false false
flushing (FlushSwapHeld place reply) = on false true
flushing (FlushPutCache place reply) = on false false
flushing (FlushUnlock place reply) = on true false
flushing _ = off

-- the kind of the call that a processor is in: none, a read, or any other
pub data Kind : Type 0 where
  none : Kind
  reads : Kind
  writes : Kind

abbrev pub kind : Point → Kind
kind Start = none
kind LoadMade = reads
kind (LoadHeld made) = reads
kind (TakeCache place) = reads
kind (Look place) = reads
kind (Unlock place reply) = reads
kind (MergeEnter made held) = reads
kind (MergeLoadMade made held) = reads
kind (MergeTakeCache made held place) = reads
kind (Merge made held place) = reads
kind (MergePutCache made held place reply) = reads
kind (MergeLeave made held place reply) = reads
kind (MergeUnlock made held place reply) = reads
kind (AskEnter holder) = reads
kind (AskLook holder) = reads
kind (AskLeave holder place reply) = reads
kind _ = writes

-- the made that a call has loaded, which its place is not below
abbrev pub loaded : Point → Option ℕ
loaded (LoadHeld made) = Some made
loaded (TakeCache place) = Some place
loaded (Look place) = Some place
loaded (MergeEnter made held) = Some made
loaded (MergeLoadMade made held) = Some made
loaded (MergeTakeCache made held place) = Some made
loaded (Merge made held place) = Some made
loaded _ = None

-- whom a call found at the lock word
abbrev pub found : Point → Option ℕ
found (AskEnter holder) = Some holder
found (AskLook holder) = Some holder
found (Defer place reply holder) = Some holder
found _ = None

-- the number of the entry that the history has of a call that isn't answered
abbrev pub taken : Point → Option ℕ
taken (TryLock place reply) = Some place
taken (FlushTakeCache place reply) = Some place
taken (Flush place reply) = Some place
taken (FlushSwapHeld place reply) = Some place
taken (FlushPutCache place reply) = Some place
taken (FlushUnlock place reply) = Some place
taken (Defer place reply holder) = Some place
taken (Leave place reply route) = if is_change reply then Some place else None
taken _ = None

-- a formed reply: its place, its route where that is fixed, the reply, and whether made was raised behind it
pub record Formed : Type 0 where
  pub place : ℕ
  pub route : Option Route
  pub reply : Reply
  pub late : Bool

abbrev pub formed : Point → Option Formed
formed (Unlock place reply) = Some (record { place = place; route = Some Cache; reply = reply; late = true })
formed (MergePutCache made held place reply) = Some (record { place = place; route = Some (Merged made held); reply = reply; late = true })
formed (MergeLeave made held place reply) = Some (record { place = place; route = Some (Merged made held); reply = reply; late = true })
formed (MergeUnlock made held place reply) = Some (record { place = place; route = Some (Merged made held); reply = reply; late = true })
formed (AskLeave holder place reply) = Some (record { place = place; route = Some (Asked holder); reply = reply; late = true })
formed (TryLock place reply) = Some (record { place = place; route = None; reply = reply; late = false })
formed (FlushTakeCache place reply) = Some (record { place = place; route = Some Flushed; reply = reply; late = false })
formed (Flush place reply) = Some (record { place = place; route = Some Flushed; reply = reply; late = false })
formed (FlushSwapHeld place reply) = Some (record { place = place; route = Some Flushed; reply = reply; late = true })
formed (FlushPutCache place reply) = Some (record { place = place; route = Some Flushed; reply = reply; late = true })
formed (FlushUnlock place reply) = Some (record { place = place; route = Some Flushed; reply = reply; late = true })
formed (Defer place reply holder) = Some (record { place = place; route = Some (Deferred holder); reply = reply; late = false })
formed (Leave place reply route) = Some (record { place = place; route = Some route; reply = reply; late = true })
formed _ = None
