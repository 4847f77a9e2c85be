-- The world: the shared words, the cache, the writer's side, and where each processor stands.
use Rattle.std.specs.Prelude.{ℕ, Bool, List, [], ◌∷◌, ◌++◌, slice_set}
use Rattle.pending_range.specs.declared.ranges.Ranges.{Ranges}
use Rattle.var_trace.specs.declared.change.Change.{Change}
use Rattle.var_types.specs.declared.answered.Answered.{Answered}
use Rattle.var_types.specs.declared.answered.Route.{Route}
use Rattle.var_types.specs.declared.call.Call.{Call}
use Rattle.var_types.specs.declared.reply.Reply.{Reply}
use Rattle.var_types.specs.Step.{step}
use Rattle.var_types.specs.Stores.{Stores, state_in}
use Rattle.svc_core.specs.declared.point.Point.{Point}
use Rattle.svc_core.specs.declared.point.Point.TheVariants.{Start}
use Rattle.svc_core.specs.Writer.{Opening, Writer}

-- what the holder of the lock word may write: the word held, whether the cache is in its slot, and the cache (this project's own)
pub record CacheSide : Type 0 where
  pub held : ℕ
  pub home : Bool
  pub cache : Stores

-- what the holder of the writer's lock may write: the word made, the history, the two stores, the ranges that the cache lacks, how many changes
-- there were at the last merge, the flash, and the writer's own (this project's own)
pub record WriterSide : Type 0 where
  pub made : ℕ
  pub log : List Change
  pub stores : Stores
  pub ranges : Ranges
  pub flushed : ℕ
  pub flash : List ℕ
  pub own : Writer

-- a processor: the calls that it has not answered, those that it has, and where it stands in its call (this project's own)
pub record Processor : Type 0 where
  pub calls : List Call
  pub answered : List Answered
  pub point : Point

-- the world. The lock word is 0 where it is free, a processor's number plus 1 where that one holds it, and 255 where the writer's side does; the
-- writer's lock is 0 where it is free, and else the number plus 1 of the processor that has it (this project's own)
pub record World : Type 0 where
  pub opening : Opening
  pub count : ℕ
  pub lock : ℕ
  pub cached : CacheSide
  pub writer_lock : ℕ
  pub writer : WriterSide
  pub processors : List Processor

-- what a read finds in two stores and a phase (UEFI 2.10, 8.2.1 and 8.2.2)
unfoldable pub look : Stores → Call → Reply
look stores call = (step (state_in stores) call).0

-- the cache with another place of it
abbrev pub homed : CacheSide → Bool → CacheSide
homed cached home = record cached { home = home }

-- the world with another state of a processor
abbrev pub with_processor : World → ℕ → Processor → World
with_processor w p a = record w { processors = slice_set w.processors p a }

-- the world with a processor at another point
abbrev pub moved : World → ℕ → Processor → Point → World
moved w p a point = with_processor w p (record a { point = point })

-- a processor that has answered its call
abbrev pub done : Processor → Call → List Call → ℕ → Route → Reply → Processor
done a call calls place route reply = record {
  calls = calls;
  answered = a.answered ++ record { call = call; place = place; route = route; reply = reply } ∷ [];
  point = Start;
}

-- the world with a processor that has answered its call
abbrev pub answered : World → ℕ → Processor → Call → List Call → ℕ → Route → Reply → World
answered w p a call calls place route reply = with_processor w p (done a call calls place route reply)
