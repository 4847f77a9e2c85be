-- The table of steps.
use Rattle.std.specs.Prelude.{◌≡◌, ◌≢◌, ℕ, ◌+◌, true, false, List, [], ◌∷◌, ◌++◌, length, Some, None}
use Rattle.pending_range.specs.Ranges.{no_ranges}
use Rattle.runtime_cache.specs.Merged.{merged}
use Rattle.var_trace.specs.declared.change.Change.{Change}
use Rattle.var_trace.specs.Pieces.{with_change}
use Rattle.var_trace.specs.Routes.{is_read}
use Rattle.var_types.specs.declared.answered.Route.{Route}
use Rattle.var_types.specs.declared.answered.Route.TheVariants.{Plain, Cache, Merged, Writer as Asked, Flushed, Deferred}
use Rattle.var_types.specs.declared.call.Call.{Call}
use Rattle.var_types.specs.declared.reply.Reply.{Reply}
use Rattle.var_types.specs.Stores.{Stores}
use Rattle.svc_core.specs.declared.flash_step.FlashStep.{FlashStep}
use Rattle.svc_core.specs.declared.point.Point.TheVariants.{Start, LoadMade, LoadHeld, TakeCache, Look, Unlock}
use Rattle.svc_core.specs.declared.point.Point.TheVariants.{MergeEnter, MergeLoadMade, MergeTakeCache, Merge, MergePutCache, MergeLeave, MergeUnlock}
use Rattle.svc_core.specs.declared.point.Point.TheVariants.{AskEnter, AskLook, AskLeave, Decide, Write, TryLock}
use Rattle.svc_core.specs.declared.point.Point.TheVariants.{FlushTakeCache, Flush, FlushSwapHeld, FlushPutCache, FlushUnlock, Defer, Leave}
use Rattle.svc_core.specs.FlashSteps.{after_step}
use Rattle.svc_core.specs.Plan.{IsPlan}
use Rattle.svc_core.specs.Ranges.{covering}
use Rattle.svc_core.specs.Writer.{Writer}
use Rattle.svc_core.specs.World.{Processor, World, WriterSide, answered, homed, look, moved}

-- the cache once it has taken what the ranges cover of the writer's stores
abbrev pub merged_cache : World → Stores
merged_cache w = merged w.writer.ranges w.cached.cache w.writer.stores

-- the writer's side behind a merge: the ranges are cleared, and all changes are in the cache
abbrev pub swept : WriterSide → WriterSide
swept writer = record writer { ranges = no_ranges; flushed = length writer.log }

-- a processor takes its next step: one row a point, and two where what it finds decides (this project's own)
pub data Row (w : World) (p : ℕ) (a : Processor) : World → Type 0 where
  -- a read tries the lock word: it is free, or another's
  lock_free : (call : Call) (calls : List Call) → a.point ≡ Start → a.calls ≡ call ∷ calls → is_read call ≡ true → w.lock ≡ 0
      → Row w p a (record (moved w p a LoadMade) { lock = p + 1 })
  lock_taken : (call : Call) (calls : List Call) → a.point ≡ Start → a.calls ≡ call ∷ calls → is_read call ≡ true → w.lock ≢ 0
      → Row w p a (moved w p a (AskEnter w.lock))
  load_made : a.point ≡ LoadMade → Row w p a (moved w p a (LoadHeld w.writer.made))
  -- all changes are in the cache, or some aren't
  held_is_made : (made : ℕ) → a.point ≡ LoadHeld made → w.cached.held ≡ made → Row w p a (moved w p a (TakeCache made))
  held_is_behind : (made : ℕ) → a.point ≡ LoadHeld made → w.cached.held ≢ made → Row w p a (moved w p a (MergeEnter made w.cached.held))
  take_cache : (place : ℕ) → a.point ≡ TakeCache place → Row w p a (record (moved w p a (Look place)) { cached = homed w.cached false })
  look_in_cache : (place : ℕ) (call : Call) (calls : List Call) → a.point ≡ Look place → a.calls ≡ call ∷ calls
      → Row w p a (record (moved w p a (Unlock place (look w.cached.cache call))) { cached = homed w.cached true })
  unlock : (place : ℕ) (reply : Reply) (call : Call) (calls : List Call) → a.point ≡ Unlock place reply → a.calls ≡ call ∷ calls
      → Row w p a (record (answered w p a call calls place Cache reply) { lock = 0 })
  merge_enter : (made held : ℕ) → a.point ≡ MergeEnter made held → w.writer_lock ≡ 0
      → Row w p a (record (moved w p a (MergeLoadMade made held)) { writer_lock = p + 1 })
  merge_load_made : (made held : ℕ) → a.point ≡ MergeLoadMade made held → Row w p a (moved w p a (MergeTakeCache made held w.writer.made))
  merge_take_cache : (made held place : ℕ) → a.point ≡ MergeTakeCache made held place
      → Row w p a (record (moved w p a (Merge made held place)) { cached = homed w.cached false })
  merge : (made held place : ℕ) (call : Call) (calls : List Call) → a.point ≡ Merge made held place → a.calls ≡ call ∷ calls
      → Row w p a
      (record (moved w p a (MergePutCache made held place (look (merged_cache w) call)))
      { cached = record { held = place; home = false; cache = merged_cache w }; writer = swept w.writer })
  merge_put_cache : (made held place : ℕ) (reply : Reply) → a.point ≡ MergePutCache made held place reply
      → Row w p a (record (moved w p a (MergeLeave made held place reply)) { cached = homed w.cached true })
  merge_leave : (made held place : ℕ) (reply : Reply) → a.point ≡ MergeLeave made held place reply
      → Row w p a (record (moved w p a (MergeUnlock made held place reply)) { writer_lock = 0 })
  merge_unlock : (made held place : ℕ) (reply : Reply) (call : Call) (calls : List Call) → a.point ≡ MergeUnlock made held place reply
      → a.calls ≡ call ∷ calls → Row w p a (record (answered w p a call calls place (Merged made held) reply) { lock = 0 })
  ask_enter : (holder : ℕ) → a.point ≡ AskEnter holder → w.writer_lock ≡ 0
      → Row w p a (record (moved w p a (AskLook holder)) { writer_lock = p + 1 })
  ask_look : (holder : ℕ) (call : Call) (calls : List Call) → a.point ≡ AskLook holder → a.calls ≡ call ∷ calls
      → Row w p a (moved w p a (AskLeave holder w.writer.made (look w.writer.stores call)))
  ask_leave : (holder place : ℕ) (reply : Reply) (call : Call) (calls : List Call) → a.point ≡ AskLeave holder place reply
      → a.calls ≡ call ∷ calls → Row w p a (record (answered w p a call calls place (Asked holder) reply) { writer_lock = 0 })
  -- any other call than a read takes the writer's lock
  enter : (call : Call) (calls : List Call) → a.point ≡ Start → a.calls ≡ call ∷ calls → is_read call ≡ false → w.writer_lock ≡ 0
      → Row w p a (record (moved w p a Decide) { writer_lock = p + 1 })
  -- the decision: no change, or one
  decide_no_change : (call : Call) (calls : List Call) (reply : Reply) (own : Writer) → a.point ≡ Decide → a.calls ≡ call ∷ calls
      → IsPlan w.opening w.writer.own p (length a.answered) call (record { reply = reply; steps = []; change = None }) own
      → Row w p a (record (moved w p a (Leave w.writer.made reply Plain)) { writer = record w.writer { own = own } })
  decide_change : (call : Call) (calls : List Call) (reply : Reply) (steps : List FlashStep) (change : Change) (own : Writer) → a.point ≡ Decide
      → a.calls ≡ call ∷ calls
      → IsPlan w.opening w.writer.own p (length a.answered) call (record { reply = reply; steps = steps; change = Some change }) own
      → Row w p a (record (moved w p a (Write w.writer.made reply steps change)) { writer = record w.writer { own = own } })
  flash_step : (place : ℕ) (reply : Reply) (step : FlashStep) (steps : List FlashStep) (change : Change)
      → a.point ≡ Write place reply (step ∷ steps) change
      → Row w p a
      (record (moved w p a (Write place reply steps change)) { writer = record w.writer { flash = after_step step w.writer.flash } })
  take_change : (place : ℕ) (reply : Reply) (change : Change) → a.point ≡ Write place reply [] change
      → Row w p a
      (record (moved w p a (TryLock place reply)) {
        writer = record w.writer {
          log = w.writer.log ++ change ∷ [];
          stores = with_change w.writer.stores change.delta;
          ranges = covering w.writer.ranges change.delta.pieces;
        };
      })
  -- the writer's side tries the lock word: it is free, or a reader's
  flush_lock : (place : ℕ) (reply : Reply) → a.point ≡ TryLock place reply → w.lock ≡ 0
      → Row w p a (record (moved w p a (FlushTakeCache place reply)) { lock = 255 })
  flush_later : (place : ℕ) (reply : Reply) → a.point ≡ TryLock place reply → w.lock ≢ 0 → Row w p a (moved w p a (Defer place reply w.lock))
  flush_take_cache : (place : ℕ) (reply : Reply) → a.point ≡ FlushTakeCache place reply
      → Row w p a (record (moved w p a (Flush place reply)) { cached = homed w.cached false })
  flush : (place : ℕ) (reply : Reply) → a.point ≡ Flush place reply
      → Row w p a
      (record (moved w p a (FlushSwapHeld place reply))
      { cached = record w.cached { cache = merged_cache w }; writer = record (swept w.writer) { made = w.writer.made + 1 } })
  flush_swap_held : (place : ℕ) (reply : Reply) → a.point ≡ FlushSwapHeld place reply
      → Row w p a (record (moved w p a (FlushPutCache place reply)) { cached = record w.cached { held = w.writer.made } })
  flush_put_cache : (place : ℕ) (reply : Reply) → a.point ≡ FlushPutCache place reply
      → Row w p a (record (moved w p a (FlushUnlock place reply)) { cached = homed w.cached true })
  flush_unlock : (place : ℕ) (reply : Reply) → a.point ≡ FlushUnlock place reply
      → Row w p a (record (moved w p a (Leave place reply Flushed)) { lock = 0 })
  defer : (place : ℕ) (reply : Reply) (holder : ℕ) → a.point ≡ Defer place reply holder
      → Row w p a (record (moved w p a (Leave place reply (Deferred holder))) { writer = record w.writer { made = w.writer.made + 1 } })
  leave : (place : ℕ) (reply : Reply) (route : Route) (call : Call) (calls : List Call) → a.point ≡ Leave place reply route
      → a.calls ≡ call ∷ calls → Row w p a (record (answered w p a call calls place route reply) { writer_lock = 0 })
