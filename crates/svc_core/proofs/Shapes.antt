-- The shapes of a step: what it may change, and the few facts from which the world behind it is consistent.
use Rattle.std.proofs.Common.{◌≡◌, ◌≢◌, ◌⊎◌, ℕ, ◌+◌, ◌<◌, ◌≤◌, List, length, Option, ◌∙◌, inl, inr, ⊎_elim, length-set, arith}
use Rattle.std.specs.Prelude.{slice_get, slice_set, Some}
use Rattle.var_types.specs.declared.answered.Answered.{Answered}
use Rattle.var_types.specs.declared.call.Call.{Call}
use Rattle.svc_core.proofs.Frames.{flush_apart, flush_free, grip_apart, stage_apart}
use Rattle.svc_core.proofs.Lists.{each_set, within_get}
use Rattle.svc_core.specs.Invariant.{AtGrip, CacheKept, EachAt, History, IsConsistent, IsLevel, Past}
use Rattle.svc_core.specs.Stages.{Formed, Grip, Kind, flushing, formed, found, grip, kind, loaded, stage, taken}
use Rattle.svc_core.specs.World.{CacheSide, Processor, World, WriterSide, with_processor}

-- a word is free, or this processor's
abbrev pub IsOwn : ℕ → ℕ → Type 0
IsOwn p word = (word ≡ 0) ⊎ (word ≡ p + 1)

-- a word is free, or the writer's side's
abbrev pub IsSide : ℕ → Type 0
IsSide word = (word ≡ 0) ⊎ (word ≡ 255)

own_apart : (p q word : ℕ) → q ≢ p → IsOwn p word → word ≢ q + 1
own_apart p q word apart own = ⊎_elim (λ (e : word ≡ 0). λ f. omega arith) (λ (e : word ≡ p + 1). λ f. apart (let k : q ≡ p = omega arith in k)) own

own_free : (p word : ℕ) → p < 8 → IsOwn p word → word ≢ 255
own_free p word low own = ⊎_elim (λ (e : word ≡ 0). λ f. omega arith) (λ (e : word ≡ p + 1). λ f. omega arith) own

side_apart : (q word : ℕ) → q < 8 → IsSide word → word ≢ q + 1
side_apart q word low side = ⊎_elim (λ (e : word ≡ 0). λ f. omega arith) (λ (e : word ≡ 255). λ f. omega arith) side

-- a world whose facts hold, of which a processor takes a step
module _ (w : World) (p : ℕ) (a x : Processor) (k : IsConsistent w) (get : slice_get w.processors p ≡ Some a) where
  abbrev next : World
  next = with_processor w p x

  pub low : p < w.count
  low = omega (arith, within_get w.processors p a get, k.bounds.all)

  as_many : length (slice_set w.processors p x) ≡ w.count
  as_many = length-set w.processors p x ∙ k.bounds.all

  below : (q : ℕ) (b : Processor) → slice_get w.processors q ≡ Some b → q < 8
  below q b there = omega (arith, within_get w.processors q b there, k.bounds.all, k.bounds.few)

  -- its point alone changes
  pub row_still : EachAt next p x.calls x.answered x.point → IsConsistent next
  row_still mine = record {
    bounds = record { few = k.bounds.few; all = as_many; word = k.bounds.word; desk_of = k.bounds.desk_of; keeper = k.bounds.keeper; sound = k.bounds.sound };
    history = k.history;
    cache = k.cache;
    rests = k.rests;
    each =
        each_set (λ (q : ℕ) (b : Processor). EachAt next q b.calls b.answered b.point) w.processors p a x get mine
        (λ q b apart there.
        let old = k.each q b there in record { grips = old.grips; stages = old.stages; flushes = old.flushes; past = old.past });
  }

  -- the lock word, its own or free, and what its holder may write
  pub row_word : (lock : ℕ) (cached : CacheSide) → IsOwn p w.lock → IsOwn p lock
      → CacheKept w.opening lock cached w.writer.made w.writer.log w.writer.flushed
      → EachAt (record next { lock = lock; cached = cached }) p x.calls x.answered x.point → IsConsistent (record next { lock = lock; cached = cached })
  row_word lock cached was will cache mine = record {
    bounds = record {
      few = k.bounds.few;
      all = as_many;
      word = inr (⊎_elim (λ (e : lock ≡ 0). omega arith) (λ (e : lock ≡ p + 1). omega (arith, low)) will);
      desk_of = k.bounds.desk_of;
      keeper = λ e. absurd (own_free p lock (below p a get) will e);
      sound = k.bounds.sound;
    };
    history = k.history;
    cache = cache;
    rests = k.rests;
    each =
        each_set (λ (q : ℕ) (b : Processor). EachAt (record next { lock = lock; cached = cached }) q b.calls b.answered b.point) w.processors p a x get mine
        (λ q b apart there.
        let old = k.each q b there in
        record {
          grips = grip_apart w.lock lock w.cached cached q (grip b.point) (own_apart p q w.lock apart was) (own_apart p q lock apart will) old.grips;
          stages = old.stages;
          flushes =
              flush_free w.opening w.lock lock w.writer_lock w.writer_lock w.cached cached w.writer.made w.writer.made w.writer.log w.writer.log
              w.writer.flushed w.writer.flushed q (own_free p w.lock (below p a get) was) (own_free p lock (below p a get) will) (flushing b.point)
              old.flushes;
          past = old.past;
        });
  }

  -- the lock word, the writer's side's or free, under the writer's lock
  pub row_flush : (lock : ℕ) (cached : CacheSide) → w.writer_lock ≡ p + 1 → IsSide w.lock → IsSide lock
      → CacheKept w.opening lock cached w.writer.made w.writer.log w.writer.flushed
      → EachAt (record next { lock = lock; cached = cached }) p x.calls x.answered x.point → IsConsistent (record next { lock = lock; cached = cached })
  row_flush lock cached desk was will cache mine = record {
    bounds = record {
      few = k.bounds.few;
      all = as_many;
      word = ⊎_elim (λ (e : lock ≡ 0). inr (let z : lock ≤ w.count = omega arith in z)) (λ (e : lock ≡ 255). inl e) will;
      desk_of = k.bounds.desk_of;
      keeper = λ e f. omega arith;
      sound = k.bounds.sound;
    };
    history = k.history;
    cache = cache;
    rests = k.rests;
    each =
        each_set (λ (q : ℕ) (b : Processor). EachAt (record next { lock = lock; cached = cached }) q b.calls b.answered b.point) w.processors p a x get mine
        (λ q b apart there.
        let old = k.each q b there in
        let others : w.writer_lock ≢ q + 1 = λ e. apart (let z : q ≡ p = omega arith in z) in
        record {
          grips =
              grip_apart w.lock lock w.cached cached q (grip b.point) (side_apart q w.lock (below q b there) was) (side_apart q lock (below q b there) will)
              old.grips;
          stages = old.stages;
          flushes =
              flush_apart w.opening w.lock lock w.writer_lock w.writer_lock w.cached cached w.writer.made w.writer.made w.writer.log w.writer.log
              w.writer.flushed w.writer.flushed q others others (flushing b.point) old.flushes;
          past = old.past;
        });
  }

  -- the writer's lock, its own or free; a lock word of its own may become free too
  pub row_desk : (desk : ℕ) → IsOwn p w.writer_lock → IsOwn p desk → w.lock ≢ 255
      → (desk ≡ 0 → IsLevel w.opening w.writer.made w.writer.log w.writer.stores w.writer.flash w.writer.own)
      → EachAt (record next { writer_lock = desk }) p x.calls x.answered x.point → IsConsistent (record next { writer_lock = desk })
  row_desk desk was will free rests mine = record {
    bounds = record {
      few = k.bounds.few;
      all = as_many;
      word = k.bounds.word;
      desk_of = ⊎_elim (λ (e : desk ≡ 0). omega arith) (λ (e : desk ≡ p + 1). omega (arith, low)) will;
      keeper = λ e. absurd (free e);
      sound = k.bounds.sound;
    };
    history = k.history;
    cache = k.cache;
    rests = rests;
    each =
        each_set (λ (q : ℕ) (b : Processor). EachAt (record next { writer_lock = desk }) q b.calls b.answered b.point) w.processors p a x get mine
        (λ q b apart there.
        let old = k.each q b there in
        record {
          grips = old.grips;
          stages =
              stage_apart w.opening w.writer_lock desk w.writer.made w.writer.made w.writer.log w.writer.log w.writer.stores w.writer.stores
              w.writer.flash w.writer.flash w.writer.own w.writer.own q b.calls (length b.answered) (own_apart p q w.writer_lock apart was)
              (own_apart p q desk apart will) (stage b.point) old.stages;
          flushes =
              flush_free w.opening w.lock w.lock w.writer_lock desk w.cached w.cached w.writer.made w.writer.made w.writer.log w.writer.log
              w.writer.flushed w.writer.flushed q free free (flushing b.point) old.flushes;
          past = old.past;
        });
  }

  -- the writer's side, under the writer's lock, and with it what the holder of the lock word may write
  pub row_back : (cached : CacheSide) (writer : WriterSide) → w.writer_lock ≡ p + 1
      → History w.opening w.count writer.made writer.log writer.stores writer.ranges writer.flushed
      → CacheKept w.opening w.lock cached writer.made writer.log writer.flushed
      → ((q : ℕ) (g : Grip) → q ≢ p → q < 8 → AtGrip w.lock w.cached q g → AtGrip w.lock cached q g)
      → ((q : ℕ) (calls : List Call) (answered : List Answered) (in_call : Kind) (load find : Option ℕ) (form : Option Formed) (entry : Option ℕ) → q ≢ p
      → Past w.opening w.writer.log w.writer.made w.count q calls answered in_call load find form entry
      → Past w.opening writer.log writer.made w.count q calls answered in_call load find form entry)
      → EachAt (record next { cached = cached; writer = writer }) p x.calls x.answered x.point
      → IsConsistent (record next { cached = cached; writer = writer })
  row_back cached writer desk history cache grips pasts mine = record {
    bounds = record { few = k.bounds.few; all = as_many; word = k.bounds.word; desk_of = k.bounds.desk_of; keeper = k.bounds.keeper; sound = k.bounds.sound };
    history = history;
    cache = cache;
    rests = λ e. absurd (omega arith);
    each =
        each_set (λ (q : ℕ) (b : Processor). EachAt (record next { cached = cached; writer = writer }) q b.calls b.answered b.point) w.processors p a x get mine
        (λ q b apart there.
        let old = k.each q b there in
        let others : w.writer_lock ≢ q + 1 = λ e. apart (let z : q ≡ p = omega arith in z) in
        record {
          grips = grips q (grip b.point) apart (below q b there) old.grips;
          stages =
              stage_apart w.opening w.writer_lock w.writer_lock w.writer.made writer.made w.writer.log writer.log w.writer.stores writer.stores
              w.writer.flash writer.flash w.writer.own writer.own q b.calls (length b.answered) others others (stage b.point) old.stages;
          flushes =
              flush_apart w.opening w.lock w.lock w.writer_lock w.writer_lock w.cached cached w.writer.made writer.made w.writer.log writer.log
              w.writer.flushed writer.flushed q others others (flushing b.point) old.flushes;
          past = pasts q b.calls b.answered (kind b.point) (loaded b.point) (found b.point) (formed b.point) (taken b.point) apart old.past;
        });
  }
