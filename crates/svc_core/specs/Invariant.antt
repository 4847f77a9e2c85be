-- What holds of the world behind every event: records named by what they speak of, and indexed by what they read.
use Rattle.std.specs.Prelude.{◌≡◌, ◌≢◌, ◌⊎◌, ℕ, ◌+◌, ◌<◌, ◌≤◌, true, false, List, [], ◌∷◌, ◌++◌, length, slice_get, All, Option, Some, None, IfSome}
use Rattle.pending_range.specs.declared.ranges.Ranges.{Ranges}
use Rattle.pending_range.specs.Ranges.{AgreeOutside}
use Rattle.var_trace.specs.declared.change.Change.{Change}
use Rattle.var_trace.specs.LegalSession.{IsChangeAt}
use Rattle.var_trace.specs.Pieces.{with_change}
use Rattle.var_trace.specs.Routes.{IsOthers, IsRouteBy, IsRouted, is_read}
use Rattle.var_trace.specs.StoresAfter.{bytes_at, history_in}
use Rattle.var_types.specs.declared.answered.Answered.{Answered}
use Rattle.var_types.specs.declared.call.Call.{Call}
use Rattle.var_types.specs.declared.reply.Reply.{Reply}
use Rattle.var_types.specs.History.{Entry, IsRightAt}
use Rattle.var_types.specs.Kept.{kept}
use Rattle.var_types.specs.Session.{AreOrderedFrom, AreRight, changes_from, entries_of, place_behind}
use Rattle.var_types.specs.Step.{is_change, step}
use Rattle.var_types.specs.Stores.{HaveSizes, Means, Stores}
use Rattle.var_types.specs.Walk.{IsSound}
use Rattle.svc_core.specs.declared.flash_step.FlashStep.{FlashStep}
use Rattle.svc_core.specs.declared.point.Point.{Point}
use Rattle.svc_core.specs.FlashSteps.{Moments, StepsFit, after_steps}
use Rattle.svc_core.specs.Plan.{IsInStore, KeepsWithOrWithout}
use Rattle.svc_core.specs.Stages.{Flushing, off, on, Formed, Grip, free, took, saw, level, behind, Kind, none, reads, writes, Stage, away, calm, counted, plans, ahead}
use Rattle.svc_core.specs.Stages.{flushing, formed, found, grip, kind, loaded, stage, taken}
use Rattle.svc_core.specs.World.{CacheSide, Processor, World}
use Rattle.svc_core.specs.Writer.{Opening, Writer, kept_after, state_at}

-- the lock word as a reader has it in hand
abbrev pub AtGrip : ℕ → CacheSide → ℕ → Grip → Type 0
AtGrip lock cached q free = lock ≢ q + 1
AtGrip lock cached q took = (lock ≡ q + 1) × (cached.home ≡ true)
AtGrip lock cached q (saw made) = (lock ≡ q + 1) × (cached.home ≡ true) × (cached.held ≤ made)
AtGrip lock cached q (level held home) = (lock ≡ q + 1) × (cached.home ≡ home) × (cached.held ≡ held)
AtGrip lock cached q (behind made held home) = (lock ≡ q + 1) × (cached.home ≡ home) × (cached.held ≡ held) × (held < made)

-- nothing is planned: the writer's own history, stores and image are the world's, and the flash keeps the history's non-volatile variables
pub record Even (opening : Opening) (log : List Change) (stores : Stores) (flash : List ℕ) (own : Writer) : Type 0 where
  pub same : own ≡ record { log = log; stores = stores; image = flash }
  pub keeps : kept flash ≡ kept_after opening log (length log)

-- nothing is planned, and made is the length of the history
abbrev pub IsLevel : Opening → ℕ → List Change → Stores → List ℕ → Writer → Type 0
IsLevel opening made log stores flash own = (length log ≡ made) × Even opening log stores flash own

-- a change is planned, and these flash steps of it are left
pub record Planning (opening : Opening) (made : ℕ) (log : List Change) (stores : Stores) (flash : List ℕ) (own : Writer) (q : ℕ) (calls : List Call) (index place : ℕ) (reply : Reply) (steps : List FlashStep) (change : Change) : Type 0 where
  pub none_ahead : length log ≡ made
  pub room : length log < opening.start.limit
  pub place_is : place ≡ made
  pub own_log : own.log ≡ log ++ change ∷ []
  pub own_stores : own.stores ≡ with_change stores change.delta
  pub own_image : own.image ≡ after_steps steps flash
  pub inside : All IsInStore change.delta.pieces
  pub fit : StepsFit steps
  pub means : Means own.stores (state_at opening (log ++ change ∷ []) (length log + 1))
  pub moments : Moments (KeepsWithOrWithout opening log change) flash steps
  pub end : kept own.image ≡ kept_after opening (log ++ change ∷ []) (length log + 1)
  pub call : Call
  pub later : List Call
  pub calls_are : calls ≡ call ∷ later
  pub entry : change.entry ≡ record { number = place; processor = q; index = index; call = call }
  pub changes : is_change reply ≡ true
  pub reply_is : reply ≡ (step (state_at opening log (length log)) call).0

-- the writer's lock as a processor has it in hand
abbrev pub AtStage : Opening → ℕ → ℕ → List Change → Stores → List ℕ → Writer → ℕ → List Call → ℕ → Stage → Type 0
AtStage opening desk made log stores flash own q calls index away = desk ≢ q + 1
AtStage opening desk made log stores flash own q calls index calm = (desk ≡ q + 1) × IsLevel opening made log stores flash own
AtStage opening desk made log stores flash own q calls index (counted place) =
    (desk ≡ q + 1) × IsLevel opening made log stores flash own × (place ≡ made)
AtStage opening desk made log stores flash own q calls index (plans place reply steps change) =
    (desk ≡ q + 1) × Planning opening made log stores flash own q calls index place reply steps change
AtStage opening desk made log stores flash own q calls index (ahead place) =
    (desk ≡ q + 1) × (length log ≡ made + 1) × (place ≡ made) × Even opening log stores flash own

-- the cache is the stores after the first n changes, none of them before the last merge
abbrev pub CacheIs : Opening → CacheSide → List Change → ℕ → ℕ → Type 0
CacheIs opening cached log flushed n = (cached.cache ≡ bytes_at opening.stores log n) × (flushed ≤ n)

-- the lock word as the writer's side has it in hand
abbrev pub AtFlush : Opening → ℕ → ℕ → CacheSide → ℕ → List Change → ℕ → ℕ → Flushing → Type 0
AtFlush opening lock desk cached made log flushed q off = lock ≡ 255 → desk ≢ q + 1
AtFlush opening lock desk cached made log flushed q (on home false) =
    (lock ≡ 255) × (desk ≡ q + 1) × (cached.home ≡ home) × CacheIs opening cached log flushed cached.held
AtFlush opening lock desk cached made log flushed q (on home true) =
    (lock ≡ 255) × (desk ≡ q + 1) × (cached.home ≡ home) × CacheIs opening cached log flushed made

-- a processor in a call of this kind has one
abbrev pub HasCall : Kind → List Call → Type 0
HasCall none calls = Unit {0}
HasCall reads [] = ⊥
HasCall reads (call ∷ calls) = is_read call ≡ true
HasCall writes [] = ⊥
HasCall writes (call ∷ calls) = is_read call ≡ false

-- the places of answered calls are at most this one, and those of changes are below it
abbrev pub AreBelow : ℕ → List Answered → Type 0
AreBelow place answered = All (λ a. place_behind a ≤ place) answered

-- a made that was loaded
abbrev pub OnLoaded : ℕ → List Answered → Option ℕ → Type 0
OnLoaded made answered None = Unit {0}
OnLoaded made answered (Some n) = (n ≤ made) × AreBelow n answered

-- another that was found at the lock word
abbrev pub OnFound : ℕ → ℕ → Kind → Option ℕ → Type 0
OnFound count q kind None = Unit {0}
OnFound count q none (Some holder) = ⊥
OnFound count q reads (Some holder) = (holder ≡ 255) ⊎ IsOthers count q holder
OnFound count q writes (Some holder) = IsOthers count q holder

-- a formed reply is right at its place, which is at most made and not below the processor's answered ones; its route is one that it may have; where
-- made was raised behind it, a change's place is below made, and before that the reply is a change
pub record IsFormed (opening : Opening) (log : List Change) (made count q : ℕ) (calls : List Call) (answered : List Answered) (form : Formed) : Type 0 where
  pub call : Call
  pub later : List Call
  pub calls_are : calls ≡ call ∷ later
  pub right : IsRightAt opening.start (history_in log) form.place q (length answered) call form.reply
  pub within : form.place ≤ made
  pub behind_all : AreBelow form.place answered
  pub routed : IfSome form.route (λ route. IsRouteBy (is_read call) (is_change form.reply) count q form.place route)
  pub below : form.late ≡ true → is_change form.reply ≡ true → form.place < made
  pub change : form.late ≡ false → is_change form.reply ≡ true

abbrev pub OnFormed : Opening → List Change → ℕ → ℕ → ℕ → List Call → List Answered → Option Formed → Type 0
OnFormed opening log made count q calls answered None = Unit {0}
OnFormed opening log made count q calls answered (Some form) = IsFormed opening log made count q calls answered form

-- the entry that the history has of a call that isn't answered
abbrev pub owed : Option ℕ → ℕ → ℕ → List Call → List Entry
owed None q index calls = []
owed (Some n) q index [] = []
owed (Some n) q index (call ∷ calls) = record { number = n; processor = q; index = index; call = call } ∷ []

-- what is kept for good of one processor, and what its point knows: its answered calls are legal, its changes stand in the history once, and what it
-- has loaded, found and formed is as it has to be
pub record Past (opening : Opening) (log : List Change) (made count q : ℕ) (calls : List Call) (answered : List Answered) (in_call : Kind) (load find : Option ℕ) (form : Option Formed) (entry : Option ℕ) : Type 0 where
  pub has : HasCall in_call calls
  pub right : AreRight opening.start (history_in log) q 0 answered
  pub ordered : AreOrderedFrom 0 answered
  pub behind_made : AreBelow made answered
  pub routed : All (IsRouted count q) answered
  pub once : entries_of q (history_in log) ≡ changes_from q 0 answered ++ owed entry q (length answered) calls
  pub loads : OnLoaded made answered load
  pub finds : OnFound count q in_call find
  pub forms : OnFormed opening log made count q calls answered form

-- what holds of a processor at its point
pub record EachAt (w : World) (q : ℕ) (calls : List Call) (answered : List Answered) (point : Point) : Type 0 where
  pub grips : AtGrip w.lock w.cached q (grip point)
  pub stages : AtStage w.opening w.writer_lock w.writer.made w.writer.log w.writer.stores w.writer.flash w.writer.own q calls (length answered) (stage point)
  pub flushes : AtFlush w.opening w.lock w.writer_lock w.cached w.writer.made w.writer.log w.writer.flushed q (flushing point)
  pub past : Past w.opening w.writer.log w.writer.made w.count q calls answered (kind point) (loaded point) (found point) (formed point) (taken point)

-- there are at most eight processors; the lock word is one of them, the writer's side's or free, and the writer's lock one of them or free; the writer's
-- side holds the lock word only under the writer's lock; the world began with variables in key order
pub record Bounds (opening : Opening) (count lock desk : ℕ) (processors : List Processor) : Type 0 where
  pub few : count ≤ 8
  pub all : length processors ≡ count
  pub word : (lock ≡ 255) ⊎ (lock ≤ count)
  pub desk_of : desk ≤ count
  pub keeper : lock ≡ 255 → desk ≢ 0
  pub sound : IsSound opening.start

-- the history and the two stores: made is no more than the history's length, the stores are those of the whole history, what they were since the last
-- merge differs from them only in what the ranges cover, and the stores after each number of changes are those of the state there
pub record History (opening : Opening) (count made : ℕ) (log : List Change) (stores : Stores) (ranges : Ranges) (flushed : ℕ) : Type 0 where
  pub made_in : made ≤ length log
  pub room : length log ≤ opening.start.limit
  pub stores_are : stores ≡ bytes_at opening.stores log (length log)
  pub sizes : HaveSizes stores
  pub outside : (n : ℕ) → flushed ≤ n → n ≤ length log → AgreeOutside ranges (bytes_at opening.stores log n) stores
  pub means : (n : ℕ) → n ≤ length log → Means (bytes_at opening.stores log n) (state_at opening log n)
  pub changes : (n : ℕ) (entry : Entry) → slice_get (history_in log) n ≡ Some entry → IsChangeAt opening.start (history_in log) n entry
  pub known : All (λ entry. entry.processor < count) (history_in log)

-- the cache: held is at most made; but where the writer's side has the lock word, the cache is the stores after held changes; while the word is free it
-- is in its slot
pub record CacheKept (opening : Opening) (lock : ℕ) (cached : CacheSide) (made : ℕ) (log : List Change) (flushed : ℕ) : Type 0 where
  pub held_is : cached.held ≤ made
  pub cache_is : lock ≢ 255 → CacheIs opening cached log flushed cached.held
  pub rests : lock ≡ 0 → cached.home ≡ true

-- what holds of the world behind every event but a loss of power
pub record IsConsistent (w : World) : Type 0 where
  pub bounds : Bounds w.opening w.count w.lock w.writer_lock w.processors
  pub history : History w.opening w.count w.writer.made w.writer.log w.writer.stores w.writer.ranges w.writer.flushed
  pub cache : CacheKept w.opening w.lock w.cached w.writer.made w.writer.log w.writer.flushed
  pub rests : w.writer_lock ≡ 0 → IsLevel w.opening w.writer.made w.writer.log w.writer.stores w.writer.flash w.writer.own
  pub each : (q : ℕ) (a : Processor) → slice_get w.processors q ≡ Some a → EachAt w q a.calls a.answered a.point
