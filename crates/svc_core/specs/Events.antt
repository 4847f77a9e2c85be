-- Events, and when they change nothing.
use Rattle.std.specs.Prelude.{◌≡◌, ◌≢◌, ◌⊎◌, ℕ, Bool, true, false, List, [], ◌∷◌, slice_get, Option, Some, None}
use Rattle.flash_dev.specs.declared.fault_plan.Torn.{Torn}
use Rattle.var_trace.specs.Routes.{is_read}
use Rattle.var_types.specs.declared.call.Call.{Call}
use Rattle.svc_core.specs.declared.event.Event.{Event}
use Rattle.svc_core.specs.declared.event.Event.TheVariants.{Step, Power}
use Rattle.svc_core.specs.declared.point.Point.{Point}
use Rattle.svc_core.specs.declared.point.Point.TheVariants.{Start, MergeEnter, AskEnter}
use Rattle.svc_core.specs.Power.{IsLeft, next_step, torn_by, world_left}
use Rattle.svc_core.specs.Rows.{Row}
use Rattle.svc_core.specs.World.{Processor, World}

-- a processor is to take the writer's lock, by its point and the calls that it has left
abbrev pub IsToEnter : Point → List Call → Type 0
IsToEnter Start (call ∷ calls) = is_read call ≡ false
IsToEnter (MergeEnter made held) calls = Unit {0}
IsToEnter (AskEnter holder) calls = Unit {0}
IsToEnter _ _ = ⊥

-- a processor's step changes nothing: it has no call left, or is to take the writer's lock while another has it
abbrev pub IsStuck : World → Processor → Type 0
IsStuck w a = (a.calls ≡ []) ⊎ ((w.writer_lock ≢ 0) × IsToEnter a.point a.calls)

-- the same by whether there is such a processor
abbrev pub IsStillFor : World → Option Processor → Type 0
IsStillFor w None = Unit {0}
IsStillFor w (Some a) = IsStuck w a

-- an event changes nothing: power was lost before, or it is the step of a processor that the world doesn't have, that has no call left, or that is to
-- take the writer's lock while another has it (this project's own)
abbrev pub IsStill : Bool → World → Event → Type 0
IsStill true w event = Unit {0}
IsStill false w (Step processor) = IsStillFor w (slice_get w.processors processor)
IsStill false w (Power torn) = ⊥

-- a world, and whether power was lost in it
pub record Powered : Type 0 where
  pub lost : Bool
  pub world : World

-- an event happens: it changes nothing, a processor takes a step of the table, or power is lost, which leaves the next flash step torn this way, an
-- image that the flash's rules allow (this project's own)
pub data Happens (v : Powered) : Event → Powered → Type 0 where
  nothing : (event : Event) → IsStill v.lost v.world event → Happens v event v
  step : (p : ℕ) (a : Processor) (w : World) → v.lost ≡ false → slice_get v.world.processors p ≡ Some a → Row v.world p a w
      → Happens v (Step p) (record { lost = false; world = w })
  power : (torn : Torn) (left : List ℕ) → v.lost ≡ false → left ≡ torn_by torn (next_step v.world) v.world.writer.flash → IsLeft v.world left
      → Happens v (Power torn) (record { lost = true; world = world_left v.world left })

-- events happen, one after the other
abbrev pub Happen : Powered → List Event → Powered → Type 0
Happen v [] new = new ≡ v
Happen v (event ∷ events) new = (next : Powered) × Happens v event next × Happen next events new
