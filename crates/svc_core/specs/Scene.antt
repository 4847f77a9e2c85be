-- A world as its caller has it: how it begins, and what an event gives.
use Rattle.std.specs.Prelude.{◌≡◌, ◌≢◌, ◌<◌, ◌≤◌, ℕ, Bool, true, false, List, [], length, map, take, slice_get, Some}
use Rattle.flash_dev.specs.Blank.{blank_volatile}
use Rattle.pending_range.specs.Ranges.{no_ranges}
use Rattle.var_types.specs.declared.call.Call.{Call}
use Rattle.var_types.specs.declared.store.Store.TheVariants.{NonVolatile}
use Rattle.var_types.specs.Kept.{kept}
use Rattle.var_types.specs.Layout.{image_size, volume_size}
use Rattle.var_types.specs.State.{start}
use Rattle.var_types.specs.Stores.{Means, part}
use Rattle.var_types.specs.Walk.{IsSound}
use Rattle.svc_core.specs.declared.event.Event.{Event}
use Rattle.svc_core.specs.declared.event.Stepped.{Stepped}
use Rattle.svc_core.specs.declared.event.Stepped.TheVariants.{Moved, Still, OutOfMemory}
use Rattle.svc_core.specs.declared.machine.Machine.{Machine}
use Rattle.svc_core.specs.declared.point.Point.TheVariants.{Decide}
use Rattle.svc_core.specs.declared.standing.Standing.{Standing}
use Rattle.svc_core.specs.declared.standing.Standing.TheVariants.{PowerLost, GivenUp, Spoiled}
use Rattle.svc_core.specs.Events.{Happen, Happens, IsStill, IsStuck, Powered}
use Rattle.svc_core.specs.Laws.{Holds}
use Rattle.svc_core.specs.Machine.{world_of}
use Rattle.svc_core.specs.Progress.{starting}
use Rattle.svc_core.specs.World.{Processor, World}
use Rattle.svc_core.specs.Writer.{Opening, Writer}

-- a world, whether power was lost in it, and whether it was given up for want of memory (this project's own)
pub record Scene : Type 0 where
  pub lost : Bool
  pub over : Bool
  pub world : World

abbrev pub powered : Scene → Powered
powered s = record { lost = s.lost; world = s.world }

abbrev pub is_lost : Standing → Bool
is_lost PowerLost = true
is_lost _ = false

abbrev pub is_over : Standing → Bool
is_over GivenUp = true
is_over Spoiled = true
is_over _ = false

-- the writer's own; a writer that failed says nothing of it any more, and the world's stands for it
abbrev pub own_by : Standing → Writer → Machine → Writer
own_by Spoiled own m = record { log = m.progress.log; stores = m.stores; image = m.flash }
own_by _ own m = own

abbrev pub scene_of : Standing → Opening → Writer → Machine → Scene
scene_of standing opening own m =
    record { lost = is_lost standing; over = is_over standing; world = world_of opening (own_by standing own m) m }

-- what holds of a world that the code has: the invariant, and the history's limit is the opening's
pub record IsSceneOf (standing : Standing) (opening : Opening) (own : Writer) (m : Machine) : Type 0 where
  pub holds : Holds (is_lost standing) (world_of opening (own_by standing own m) m)
  pub limit : m.progress.limit ≡ opening.start.limit

-- a world may begin from an image with a limit: the writer starts from the image's variables, with the image's volume and a volatile store without
-- variables in the boot phase; these two stores mean that state, which is sound, and the image keeps its non-volatile variables
pub record IsOpening (opening : Opening) (image : List ℕ) (limit : ℕ) : Type 0 where
  pub size : length image ≡ image_size
  pub state : opening.start ≡ start (kept image) limit
  pub stores : opening.stores ≡ record { non_volatile = take volume_size image; volatile = blank_volatile; runtime = false }
  pub means : Means opening.stores opening.start
  pub keeps : kept image ≡ part NonVolatile opening.start.variables
  pub sound : IsSound opening.start

-- what a writer has of its own before its first call
abbrev pub own_at_first : Opening → List ℕ → Writer
own_at_first opening image = record { log = []; stores = opening.stores; image = image }

-- a world before its first event
abbrev pub first_world : Opening → List ℕ → List (List Call) → World
first_world opening image calls = record {
  opening = opening;
  count = length calls;
  lock = 0;
  cached = record { held = 0; home = true; cache = opening.stores };
  writer_lock = 0;
  writer = record {
    made = 0;
    log = [];
    stores = opening.stores;
    ranges = no_ranges;
    flushed = 0;
    flash = image;
    own = own_at_first opening image;
  };
  processors = map starting calls;
}

-- a scene is another's but for the writer's own, of which nothing is said
abbrev pub IsSameButOwn : Scene → Powered → Type 0
IsSameButOwn s v = (s.lost ≡ v.lost) × ((own : Writer) × s.world ≡ (let w : World = v.world in record w { writer = record w.writer { own = own } }))

-- an event happens, and is none that changes nothing
abbrev pub Moves : Powered → Event → Powered → Type 0
Moves v event new = (IsStill v.lost v.world event → ⊥) × Happens v event new

-- what a step of a world gives for an event
abbrev pub IsStepped : Scene → Event → Stepped → Scene → Type 0
IsStepped old event Moved new = (new.over ≡ false) × Moves (powered old) event (powered new)
IsStepped old event Still new = (old.over ≡ false) × IsStill old.lost old.world event × (new ≡ old)
IsStepped old event OutOfMemory new = (new.over ≡ true) × IsSameButOwn new (powered old)

-- events have happened in a world: all of them, or at want of memory a first part of them
pub record IsRun (old : Scene) (events : List Event) (new : Scene) : Type 0 where
  pub count : ℕ
  pub within : count ≤ length events
  pub reached : Powered
  pub happen : Happen (powered old) (take count events) reached
  pub same : IsSameButOwn new reached
  pub whole : new.over ≡ false → (count ≡ length events) × (powered new ≡ reached)

-- a processor takes a step that isn't a decision: it is there, and can move
pub record CanGo (w : World) (p : ℕ) : Type 0 where
  pub within : p < length w.processors
  pub decided : (a : Processor) → slice_get w.processors p ≡ Some a → a.point ≢ Decide
  pub ready : (a : Processor) → slice_get w.processors p ≡ Some a → IsStuck w a → ⊥
