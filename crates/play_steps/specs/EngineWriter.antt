-- The writer's engine over a flash that lists its steps, as a writer of the core.
use Rattle.std.specs.Prelude.{◌≡◌, ◌⊎◌, ℕ, ◌≤◌, true, false, List, [], length, Option, None}
use Rattle.mm_writer.specs.Doubt.{SetInDoubt}
use Rattle.mm_writer.specs.Outcome.{Grows, IsKeptBy, entry_after}
use Rattle.mm_writer.specs.Side.{IsConsistent, Side, first_state, state_of}
use Rattle.play_steps.specs.ListedFlash.{IsLeftIn, ListedState, bytes_of}
use Rattle.svc_core.specs.Writer.{Opening, Writer}
use Rattle.var_types.specs.declared.call.Call.{Call}
use Rattle.var_types.specs.declared.reply.Reply.{Reply}
use Rattle.var_types.specs.declared.store.Store.TheVariants.{NonVolatile}
use Rattle.var_types.specs.Kept.{kept, volume}
use Rattle.var_types.specs.Layout.{image_size}
use Rattle.var_types.specs.Step.{is_change, step}
use Rattle.var_types.specs.Stores.{HaveSizes, part}

-- a writer as the core sees it: from where it starts, and its own history, stores and image (this project's own)
pub record PlayedWriter : Type 0 where
  pub opening : Opening
  pub own : Writer

-- the flash of an engine, the set in doubt, and its side
abbrev pub EngineState : Type 0
EngineState = ListedState × (Option SetInDoubt × Side)

-- from where an engine starts: the state and the stores that its side opened with
abbrev pub opening_of : EngineState → Opening
opening_of e = record { start = first_state e.1.1; stores = e.1.1.opening }

-- an engine's own history, stores and image
abbrev pub own_of : EngineState → Writer
own_of e = record { log = e.1.1.log; stores = e.1.1.stores; image = bytes_of e.0 }

-- an engine is ready for a call: no set is in doubt, and no step is listed
pub record IsReady (e : EngineState) : Type 0 where
  pub sure : e.1.0 ≡ None
  pub given : e.0.steps ≡ []

-- what an engine tells of itself at any time
pub record IsWhole (e : EngineState) : Type 0 where
  pub consistent : IsConsistent e.1.1
  pub sizes : HaveSizes e.1.1.stores
  pub size : length (bytes_of e.0) ≡ image_size
  pub room : length e.1.1.log ≤ e.1.1.limit
  pub kept : e.1.0 ≡ None → IsKeptBy e.1.1 (bytes_of e.0)
  pub volume : e.1.0 ≡ None → volume (bytes_of e.0) ≡ e.1.1.stores.non_volatile

-- an image keeps a side's non-volatile variables, or those behind a call
abbrev pub KeepsEither : Side → Call → List ℕ → Type 0
KeepsEither side call image = IsKeptBy side image ⊎ (kept image ≡ part NonVolatile (step (state_of side) call).1.variables)

-- an engine that was ready answered a call: the reply is the one-thread service's; a change stands in the history, and any other call leaves all as
-- it was; the steps listed lead on from the image, and each image that they may leave keeps the variables of before or those behind the call (this
-- project's own)
pub record IsDone (old new : EngineState) (processor index : ℕ) (call : Call) (reply : Reply) : Type 0 where
  pub right : reply ≡ (step (state_of old.1.1) call).0
  pub change : is_change reply ≡ true → Grows old.1.1 new.1.1 (entry_after old.1.1 processor index call)
  pub same : is_change reply ≡ false → new ≡ old
  pub sure : new.1.0 ≡ None
  pub first : new.0.first ≡ old.0.first
  pub moments : (left : List ℕ) → IsLeftIn new.0.steps new.0.first left → KeepsEither old.1.1 call left
