-- Schedules of steps, and what a script with a schedule comes to.
use Rattle.std.specs.Prelude.{◌≡◌, ◌≢◌, ◌⊎◌, ℕ, zero, suc, true, false, List, [], ◌∷◌, ◌++◌, length, map, max, slice_get, sum_by, Option, Some, None, IfSome}
use Rattle.flash_dev.specs.declared.fault_plan.Torn.{Torn}
use Rattle.flash_dev.specs.declared.fault_plan.Torn.TheVariants as torn
use Rattle.script_text.specs.declared.power_loss.PowerLoss.{PowerLoss}
use Rattle.script_text.specs.declared.power_loss.PowerLoss.TheVariants as loss
use Rattle.script_text.specs.declared.turn.Turn.{Turn}
use Rattle.script_text.specs.declared.turn.Turn.TheVariants as turn
use Rattle.script_text.specs.Schedule.{PlayParts, ScheduleParts}
use Rattle.svc_core.specs.declared.event.Event.TheVariants.{Step, Power}
use Rattle.svc_core.specs.Events.{Happens, IsStill, Powered}
use Rattle.svc_core.specs.Power.{IsUnanswered}
use Rattle.svc_core.specs.Scene.{IsOpening, Moves, Scene, first_world}
use Rattle.svc_core.specs.World.{Processor, World}
use Rattle.svc_core.specs.Writer.{Opening}
use Rattle.var_trace.specs.declared.change.Change.{Change}
use Rattle.var_trace.specs.LegalSession.{IsLegalSoFar}
use Rattle.var_trace.specs.Session.{SessionParts, answers_of}
use Rattle.var_trace.specs.StoresAfter.{history_in}
use Rattle.var_types.specs.declared.answered.Answered.{Answered}
use Rattle.var_types.specs.declared.call.Call.{Call}
use Rattle.var_types.specs.declared.key.Key.{Key}
use Rattle.var_types.specs.declared.store.Store.TheVariants.{NonVolatile}
use Rattle.var_types.specs.declared.variable.Variable.{Variable}
use Rattle.var_types.specs.History.{Entry, after}
use Rattle.var_types.specs.Kept.{content}
use Rattle.var_types.specs.Layout.{headers_size}
use Rattle.var_types.specs.Record.{Authenticated}
use Rattle.var_types.specs.Region.{region_map}
use Rattle.var_types.specs.State.{State, start}
use Rattle.var_types.specs.Stores.{part}

-- a processor takes so many steps, or fewer, up to the first that changes nothing (this project's own)
abbrev pub Takes : ℕ → Powered → ℕ → Powered → Type 0
Takes processor v zero next = next ≡ v
Takes processor v (suc count) next =
    (IsStill v.lost v.world (Step processor) × (next ≡ v))
    ⊎ ((mid : Powered) × Moves v (Step processor) mid × Takes processor mid count next)

-- the calls that a processor of a world has answered
abbrev pub answers_in : Option Processor → List Answered
answers_in None = []
answers_in (Some a) = a.answered

abbrev pub answered_by : Powered → ℕ → List Answered
answered_by v processor = answers_in (slice_get v.world.processors processor)

-- a processor takes steps until its current call is answered, or a step changes nothing (this project's own)
pub data Ends (processor : ℕ) : Powered → Powered → Type 0 where
  stays : (v : Powered) → IsStill v.lost v.world (Step processor) → Ends processor v v
  answers : (v next : Powered) → Moves v (Step processor) next → answered_by next processor ≢ answered_by v processor → Ends processor v next
  goes_on : (v mid next : Powered) → Moves v (Step processor) mid → answered_by mid processor ≡ answered_by v processor → Ends processor mid next
      → Ends processor v next

-- a processor's step changes something, and answers no call (this project's own)
pub record GoesOn (processor : ℕ) (v next : Powered) : Type 0 where
  pub moves : Moves v (Step processor) next
  pub same : answered_by next processor ≡ answered_by v processor

-- a turn of a schedule
abbrev pub IsTurn : Turn → Powered → Powered → Type 0
IsTurn (turn.Steps processor count) v next = Takes processor v count next
IsTurn (turn.End processor) v next = Ends processor v next

-- turns, one after the other
abbrev pub AreTurns : List Turn → Powered → Powered → Type 0
AreTurns [] v next = next ≡ v
AreTurns (turn ∷ turns) v next = (mid : Powered) × IsTurn turn v mid × AreTurns turns mid next

-- how the flash step that comes next is torn
abbrev pub torn_of : PowerLoss → Torn
torn_of loss.Before = torn.Before
torn_of loss.Half = torn.Half
torn_of loss.After = torn.After

-- power is lost behind the turns, if it is
abbrev pub LosesPower : Option PowerLoss → Powered → Powered → Type 0
LosesPower None v next = next ≡ v
LosesPower (Some loss) v next = Happens v (Power (torn_of loss)) next

-- the events of a schedule happen in a world (this project's own)
pub record IsScheduled (schedule : ScheduleParts) (v next : Powered) : Type 0 where
  pub last : Powered
  pub turns : AreTurns schedule.turns v last
  pub power : LosesPower schedule.power last next

-- how many changes a play may make: as many as it has calls, at least one (this project's own)
abbrev pub play_limit : List (List Call) → ℕ
play_limit calls = max (sum_by length calls) 1

-- the part of the flash that holds the non-volatile variables, where power was lost
abbrev pub content_left : Option PowerLoss → List ℕ → Option (List ℕ)
content_left None flash = None
content_left (Some loss) flash = Some (content flash)

-- the variables of such a part
abbrev pub variables_in : List ℕ → List (Key × Variable)
variables_in bytes = region_map (record { form = Authenticated; bytes = bytes; first = headers_size; non_volatile = true })

-- the non-volatile variables after a whole history
abbrev pub variables_after : State → List Entry → List (Key × Variable)
variables_after first history = part NonVolatile (after first history (length history)).variables

-- what a loss of power leaves in a world is a history's non-volatile variables, or those with one change more, of a call that has no answer there
abbrev pub KeepsHistory : World → State → List Entry → List ℕ → Type 0
KeepsHistory w first history bytes =
    (variables_in bytes ≡ variables_after first history)
    ⊎ ((change : Change) × IsUnanswered w change × (variables_in bytes ≡ variables_after first (history ++ change.entry ∷ [])))

-- a world begins with these calls on a blank image (this project's own)
pub record IsBegun (calls : List (List Call)) (s : Scene) : Type 0 where
  pub live : s.lost ≡ false
  pub first : s.world ≡ first_world s.world.opening s.world.writer.flash calls
  pub opens : IsOpening s.world.opening s.world.writer.flash (play_limit calls)
  pub blank : s.world.opening.start ≡ start [] (play_limit calls)

-- a script with a schedule was played on a blank image: the session is that of the world after the schedule's events, which begins with no variable;
-- it is legal, and what a loss of power leaves keeps its non-volatile variables, or those with one change more, of a call without an answer (this
-- project's own)
pub record IsPlayed (play : PlayParts) (session : SessionParts) (kept : Option (List ℕ)) : Type 0 where
  pub opening : Opening
  pub image : List ℕ
  pub opens : IsOpening opening image (play_limit play.calls)
  pub blank : opening.start ≡ start [] (play_limit play.calls)
  pub behind : Powered
  pub events : IsScheduled play.schedule (record { lost = false; world = first_world opening image play.calls }) behind
  pub log : session.entries.log ≡ behind.world.writer.log
  pub answers : answers_of session ≡ map (λ a. a.answered) behind.world.processors
  pub left : kept ≡ content_left play.schedule.power behind.world.writer.flash
  pub legal : IsLegalSoFar (start [] (play_limit play.calls)) (history_in session.entries.log) (answers_of session)
  pub keeps : IfSome kept (KeepsHistory behind.world (start [] (play_limit play.calls)) (history_in session.entries.log))
