-- The world as the code has it, but for what is the writer's own; and what a step of it has to be.
use Rattle.std.specs.Prelude.{◌≡◌, ◌<◌, ℕ, ◌+◌, true, false, List, [], ◌∷◌, ◌++◌, length, map, take, slice_get, All, Option, Some, None, IfSome}
use Rattle.flash_dev.specs.Blank.{blank_volatile}
use Rattle.flash_dev.specs.declared.fault_plan.Torn.{Torn}
use Rattle.pending_range.specs.declared.ranges.Ranges.{Ranges}
use Rattle.pending_range.specs.Ranges.{no_ranges}
use Rattle.runtime_cache.specs.Merged.{merged}
use Rattle.var_trace.specs.declared.change.Change.{Change}
use Rattle.var_trace.specs.Pieces.{with_change}
use Rattle.var_trace.specs.Routes.{is_read}
use Rattle.var_types.specs.declared.answered.Route.TheVariants.{Plain}
use Rattle.var_types.specs.declared.answered.Route.{Route}
use Rattle.var_types.specs.declared.call.Call.{Call}
use Rattle.var_types.specs.declared.reply.Reply.{Reply}
use Rattle.var_types.specs.declared.store.Store.TheVariants.{NonVolatile, Volatile}
use Rattle.var_types.specs.Layout.{volume_size}
use Rattle.var_types.specs.Stores.{HaveSizes, Stores, map_in}
use Rattle.var_types.specs.TwoRegions.{AreApart}
use Rattle.svc_core.specs.declared.machine.Machine.{Machine}
use Rattle.svc_core.specs.declared.point.Point.{Point}
use Rattle.svc_core.specs.declared.point.Point.TheVariants.{Start, Look, Merge, AskLook, Decide, Write, Flush, Defer, Leave}
use Rattle.svc_core.specs.Events.{IsStillFor, IsStuck}
use Rattle.svc_core.specs.FlashSteps.{StepFits, StepsFit}
use Rattle.svc_core.specs.Plan.{IsInStore, Plan}
use Rattle.svc_core.specs.Power.{IsLeft, next_step, torn_by}
use Rattle.svc_core.specs.Progress.{starting, with_answer, with_point}
use Rattle.svc_core.specs.Ranges.{covering}
use Rattle.svc_core.specs.Rows.{Row}
use Rattle.svc_core.specs.World.{Processor, World}
use Rattle.svc_core.specs.Writer.{Opening, Writer}

-- an opening with another limit
abbrev pub limited : Opening → ℕ → Opening
limited opening limit = record opening { start = record opening.start { limit = limit } }

-- the world that the machine stands for, with the writer's own; the limit is the machine's
abbrev pub world_of : Opening → Writer → Machine → World
world_of opening own m = record {
  opening = limited opening m.progress.limit;
  count = m.count;
  lock = m.lock;
  cached = record { held = m.held; home = m.home; cache = m.cache };
  writer_lock = m.writer_lock;
  writer = record {
    made = m.made;
    log = m.progress.log;
    stores = m.stores;
    ranges = m.ranges;
    flushed = m.flushed;
    flash = m.flash;
    own = own;
  };
  processors = m.progress.processors;
}

-- the machine with other processors
abbrev pub with_processors : Machine → List Processor → Machine
with_processors m processors = record m { progress = record m.progress { processors = processors } }

-- the machine with a point put in its place
abbrev pub put_back : Machine → ℕ → Point → Machine
put_back m p point = with_processors m (with_point m.progress.processors p point)

-- the machine with a call answered
abbrev pub with_answered : Machine → ℕ → ℕ → Route → Reply → Machine
with_answered m p place route reply = with_processors m (with_answer m.progress.processors p place route reply)

-- the machine whose cache has taken what the ranges cover
abbrev pub merged_machine : Machine → Machine
merged_machine m = record m { cache = merged m.ranges m.cache m.stores; ranges = no_ranges; flushed = length m.progress.log }

-- the machine that has taken a change into history, stores and ranges
abbrev pub changed_machine : Machine → Change → Machine
changed_machine m change = record m {
  stores = with_change m.stores change.delta;
  ranges = covering m.ranges change.delta.pieces;
  progress = record m.progress { log = m.progress.log ++ change ∷ [] };
}

-- a look may be made for a call: it is a read, and no key has a variable in both stores
abbrev pub CanLook : Stores → Option Call → Type 0
CanLook stores call =
    IfSome call (λ c. is_read c ≡ true) × AreApart (map_in NonVolatile stores.non_volatile) (map_in Volatile stores.volatile)

-- what a step from a point needs of the processor's first call, of cache, stores and ranges, of made, and of the history and its limit
abbrev pub IsClearBy : Option Call → Stores → Stores → Ranges → ℕ → List Change → ℕ → Point → Type 0
IsClearBy call cache stores ranges made log limit (Look place) = CanLook cache call
IsClearBy call cache stores ranges made log limit (Merge m held place) = CanLook stores call × (merged ranges cache stores ≡ stores)
IsClearBy call cache stores ranges made log limit (AskLook holder) = CanLook stores call
IsClearBy call cache stores ranges made log limit (Write place reply steps change) =
    StepsFit steps × All IsInStore change.delta.pieces × (length log < limit) × HaveSizes stores
IsClearBy call cache stores ranges made log limit (Flush place reply) = length log ≡ made + 1
IsClearBy call cache stores ranges made log limit (Defer place reply holder) = length log ≡ made + 1
IsClearBy call cache stores ranges made log limit Decide = ⊥
IsClearBy call cache stores ranges made log limit _ = Unit {0}

-- the same of a machine, whose processor has this first call
abbrev pub IsClear : Option Call → Machine → Point → Type 0
IsClear call m point = IsClearBy call m.cache m.stores m.ranges m.made m.progress.log m.progress.limit point

-- from a machine whose processor's point was taken, its step leads to another machine
abbrev pub IsStep : Machine → ℕ → Point → Machine → Type 0
IsStep m p point next =
    (opening : Opening) (own : Writer) (a : Processor) → slice_get m.progress.processors p ≡ Some a → a.point ≡ Start
    → (IsStuck (world_of opening own m) (record a { point = point }) → ⊥)
    → Row (world_of opening own (put_back m p point)) p (record a { point = point }) (world_of opening own next)

-- from a machine a processor's step leads to another machine
abbrev pub IsAdvance : Machine → ℕ → Machine → Type 0
IsAdvance m p next =
    (opening : Opening) (own : Writer) (a : Processor) → slice_get m.progress.processors p ≡ Some a
    → (IsStuck (world_of opening own m) a → ⊥) → Row (world_of opening own m) p a (world_of opening own next)

-- the point behind a decision
abbrev pub decided_by : ℕ → Plan → Option Change → Point
decided_by made plan None = Leave made plan.reply Plain
decided_by made plan (Some change) = Write made plan.reply plan.steps change

-- a processor that there is can move, whatever is the writer's own
abbrev pub IsReady : Machine → ℕ → Type 0
IsReady m p = (opening : Opening) (own : Writer) (a : Processor) → slice_get m.progress.processors p ≡ Some a → IsStuck (world_of opening own m) a → ⊥

-- a processor's step changes nothing, whatever is the writer's own
abbrev pub IsStillOf : Machine → ℕ → Type 0
IsStillOf m p = (opening : Opening) (own : Writer) → IsStillFor (world_of opening own m) (slice_get m.progress.processors p)

-- a step that comes next lies within the image
abbrev pub NextFits : Machine → Type 0
NextFits m = (opening : Opening) (own : Writer) → IfSome (next_step (world_of opening own m)) StepFits

-- power is lost in a machine: what it leaves is the next flash step torn this way, which the flash's rules allow
abbrev pub IsPowerLost : Machine → Torn → Machine → Type 0
IsPowerLost m torn next =
    (next ≡ record m { flash = next.flash })
    × ((opening : Opening) (own : Writer)
    → (next.flash ≡ torn_by torn (next_step (world_of opening own m)) m.flash) × IsLeft (world_of opening own m) next.flash)

-- a machine before its first event
pub record IsFirst (image : List ℕ) (calls : List (List Call)) (limit : ℕ) (m : Machine) : Type 0 where
  pub count : m.count ≡ length calls
  pub lock : m.lock ≡ 0
  pub held : m.held ≡ 0
  pub home : m.home ≡ true
  pub cache : m.cache ≡ record { non_volatile = take volume_size image; volatile = blank_volatile; runtime = false }
  pub writer_lock : m.writer_lock ≡ 0
  pub made : m.made ≡ 0
  pub stores : m.stores ≡ record { non_volatile = take volume_size image; volatile = blank_volatile; runtime = false }
  pub ranges : m.ranges ≡ no_ranges
  pub flushed : m.flushed ≡ 0
  pub flash : m.flash ≡ image
  pub progress : m.progress ≡ record { log = []; limit = limit; processors = map starting calls }
  pub sizes : HaveSizes m.stores
