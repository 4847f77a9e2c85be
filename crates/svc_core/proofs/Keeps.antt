-- What holds of the world behind every list of events.
use Rattle.std.proofs.Common.{◌≡◌, ℕ, Bool, true, false, List, [], ◌∷◌, Some, sym, subst}
use Rattle.std.specs.Prelude.{slice_get}
use Rattle.svc_core.proofs.CacheRows as cache_rows
use Rattle.svc_core.proofs.FlushRows as flush_rows
use Rattle.svc_core.proofs.Legal.{legal_world}
use Rattle.svc_core.proofs.MergeRows as merge_rows
use Rattle.svc_core.proofs.Powers.{keeps_left, keeps_world}
use Rattle.svc_core.proofs.WriteRows as write_rows
use Rattle.svc_core.specs.declared.event.Event.{Event}
use Rattle.svc_core.specs.Events.{Happen, Happens, Powered, nothing, step, power}
use Rattle.svc_core.specs.Invariant.{IsConsistent}
use Rattle.svc_core.specs.Laws.{Holds, IsEnded, IsLegalWorld}
use Rattle.svc_core.specs.Power.{IsLeft, world_left}
use Rattle.svc_core.specs.Rows as row
use Rattle.svc_core.specs.Rows.{Row}
use Rattle.svc_core.specs.World.{Processor, World}

-- each step of the table
row_keeps : (w : World) (p : ℕ) (a : Processor) → IsConsistent w → slice_get w.processors p ≡ Some a → (next : World) → Row w p a next → IsConsistent next
row_keeps w p a k get _ (row.lock_free call calls at is reads free) = cache_rows.keeps_lock_free w p a k get call calls at is reads free
row_keeps w p a k get _ (row.lock_taken call calls at is reads busy) = cache_rows.keeps_lock_taken w p a k get call calls at is reads busy
row_keeps w p a k get _ (row.load_made at) = cache_rows.keeps_load_made w p a k get at
row_keeps w p a k get _ (row.held_is_made made at same) = cache_rows.keeps_held_is_made w p a k get made at same
row_keeps w p a k get _ (row.held_is_behind made at apart) = cache_rows.keeps_held_is_behind w p a k get made at apart
row_keeps w p a k get _ (row.take_cache place at) = cache_rows.keeps_take_cache w p a k get place at
row_keeps w p a k get _ (row.look_in_cache place call calls at is) = cache_rows.keeps_look_in_cache w p a k get place call calls at is
row_keeps w p a k get _ (row.unlock place reply call calls at is) = cache_rows.keeps_unlock w p a k get place reply call calls at is
row_keeps w p a k get _ (row.merge_enter made held at free) = merge_rows.keeps_merge_enter w p a k get made held at free
row_keeps w p a k get _ (row.merge_load_made made held at) = merge_rows.keeps_merge_load_made w p a k get made held at
row_keeps w p a k get _ (row.merge_take_cache made held place at) = merge_rows.keeps_merge_take_cache w p a k get made held place at
row_keeps w p a k get _ (row.merge made held place call calls at is) = merge_rows.keeps_merge w p a k get made held place call calls at is
row_keeps w p a k get _ (row.merge_put_cache made held place reply at) = merge_rows.keeps_merge_put_cache w p a k get made held place reply at
row_keeps w p a k get _ (row.merge_leave made held place reply at) = merge_rows.keeps_merge_leave w p a k get made held place reply at
row_keeps w p a k get _ (row.merge_unlock made held place reply call calls at is) =
    merge_rows.keeps_merge_unlock w p a k get made held place reply call calls at is
row_keeps w p a k get _ (row.ask_enter holder at free) = merge_rows.keeps_ask_enter w p a k get holder at free
row_keeps w p a k get _ (row.ask_look holder call calls at is) = merge_rows.keeps_ask_look w p a k get holder call calls at is
row_keeps w p a k get _ (row.ask_leave holder place reply call calls at is) = merge_rows.keeps_ask_leave w p a k get holder place reply call calls at is
row_keeps w p a k get _ (row.enter call calls at is other free) = write_rows.keeps_enter w p a k get call calls at is other free
row_keeps w p a k get _ (row.decide_no_change call calls reply own at is plan) =
    write_rows.keeps_decide_no_change w p a k get call calls reply own at is plan
row_keeps w p a k get _ (row.decide_change call calls reply steps change own at is plan) =
    write_rows.keeps_decide_change w p a k get call calls reply steps change own at is plan
row_keeps w p a k get _ (row.flash_step place reply one steps change at) = write_rows.keeps_flash_step w p a k get place reply one steps change at
row_keeps w p a k get _ (row.take_change place reply change at) = write_rows.keeps_take_change w p a k get place reply change at
row_keeps w p a k get _ (row.flush_lock place reply at free) = flush_rows.keeps_flush_lock w p a k get place reply at free
row_keeps w p a k get _ (row.flush_later place reply at busy) = flush_rows.keeps_flush_later w p a k get place reply at busy
row_keeps w p a k get _ (row.flush_take_cache place reply at) = flush_rows.keeps_flush_take_cache w p a k get place reply at
row_keeps w p a k get _ (row.flush place reply at) = flush_rows.keeps_flush w p a k get place reply at
row_keeps w p a k get _ (row.flush_swap_held place reply at) = flush_rows.keeps_flush_swap_held w p a k get place reply at
row_keeps w p a k get _ (row.flush_put_cache place reply at) = flush_rows.keeps_flush_put_cache w p a k get place reply at
row_keeps w p a k get _ (row.flush_unlock place reply at) = flush_rows.keeps_flush_unlock w p a k get place reply at
row_keeps w p a k get _ (row.defer place reply holder at) = flush_rows.keeps_defer w p a k get place reply holder at
row_keeps w p a k get _ (row.leave place reply route call calls at is) = flush_rows.keeps_leave w p a k get place reply route call calls at is

pub keeps : (w next : World) (p : ℕ) (a : Processor) → IsConsistent w → slice_get w.processors p ≡ Some a → Row w p a next → IsConsistent next
keeps w next p a k get row = row_keeps w p a k get next row

-- a world where power was lost
pub ended : (w : World) (left : List ℕ) → IsConsistent w → IsLeft w left → IsEnded (world_left w left)
ended w left k is = record { legal = legal_world w k; keeps = keeps_world w left (keeps_left w left k is) }

-- with power
powered : (lost : Bool) (w : World) → lost ≡ false → Holds lost w → IsConsistent w
powered lost w e h = subst (λ (b : Bool). Holds b w) e h

-- one event
pub happens_keeps : (v next : Powered) (event : Event) → Holds v.lost v.world → Happens v event next → Holds next.lost next.world
happens_keeps v _ event h (nothing _ still) = h
happens_keeps v _ _ h (step p a w live get taken) = keeps v.world w p a (powered v.lost v.world live h) get taken
happens_keeps v _ _ h (power torn left live torn_is allowed) = ended v.world left (powered v.lost v.world live h) allowed

-- a list of events
pub happen_keeps : (events : List Event) (v next : Powered) → Holds v.lost v.world → Happen v events next → Holds next.lost next.world
happen_keeps [] v next h same = subst (λ (u : Powered). Holds u.lost u.world) (sym same) h
happen_keeps (event ∷ events) v next h happen = happen_keeps events happen.0 next (happens_keeps v happen.0 event h happen.1) happen.2

-- the session so far is legal
pub legal : (lost : Bool) (w : World) → Holds lost w → IsLegalWorld w
legal false w h = legal_world w h
legal true w h = h.legal
