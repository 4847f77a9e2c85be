-- The session of a world, and what is proved of every world.
use Rattle.std.specs.Prelude.{◌≡◌, ℕ, Bool, true, false, List, map, slice_get, Some}
use Rattle.var_trace.specs.LegalSession.{IsLegalSoFar}
use Rattle.var_trace.specs.StoresAfter.{history_in}
use Rattle.svc_core.specs.declared.event.Event.{Event}
use Rattle.svc_core.specs.Events.{Happen, Powered}
use Rattle.svc_core.specs.Invariant.{IsConsistent}
use Rattle.svc_core.specs.Power.{IsLeft, Keeps}
use Rattle.svc_core.specs.Rows.{Row}
use Rattle.svc_core.specs.World.{Processor, World}

-- the session of the world so far is legal
abbrev pub IsLegalWorld : World → Type 0
IsLegalWorld w = IsLegalSoFar w.opening.start (history_in w.writer.log) (map (λ a. a.answered) w.processors)

-- what holds of the world where power was lost: the session so far is legal, and the flash keeps its non-volatile variables, or with the planned change
pub record IsEnded (w : World) : Type 0 where
  pub legal : IsLegalWorld w
  pub keeps : Keeps w w.writer.flash

-- what holds of the world, with power or without
abbrev pub Holds : Bool → World → Type 0
Holds false w = IsConsistent w
Holds true w = IsEnded w

-- each step of the table keeps what holds of the world
abbrev pub RowsKeep : Type 0
RowsKeep = (w next : World) (p : ℕ) (a : Processor) → IsConsistent w → slice_get w.processors p ≡ Some a → Row w p a next → IsConsistent next

-- what holds of the world holds behind every list of events
abbrev pub EventsKeep : Type 0
EventsKeep = (events : List Event) (v next : Powered) → Holds v.lost v.world → Happen v events next → Holds next.lost next.world

-- the session so far of a world for which that holds is legal
abbrev pub WorldsAreLegal : Type 0
WorldsAreLegal = (lost : Bool) (w : World) → Holds lost w → IsLegalWorld w

-- a loss of power in such a world leaves, for each image that the flash's rules allow, the non-volatile variables of the history so far or with the
-- one planned change, with every change that was answered or lies below a place that was given to a caller
abbrev pub PowerKeeps : Type 0
PowerKeeps = (w : World) (left : List ℕ) → IsConsistent w → IsLeft w left → Keeps w left
