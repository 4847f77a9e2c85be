-- An engine that was opened may begin a world.
use Rattle.std.proofs.Common.{◌≡◌, ℕ, List, [], None, sym, ap, subst, ◌∙◌, arith}
use Rattle.mm_writer.specs.Engine.{opened_side}
use Rattle.mm_writer.specs.Side.{Side, first_state, state_of}
use Rattle.play_steps.specs.EngineWriter.{EngineState, IsWhole, opening_of, own_of}
use Rattle.play_steps.specs.ListedFlash.{bytes_of}
use Rattle.svc_core.specs.Scene.{IsOpening, own_at_first}
use Rattle.svc_core.specs.Writer.{Writer}
use Rattle.var_trace.specs.declared.change.Change.{Change}
use Rattle.var_trace.specs.StoresAfter.{history_in}
use Rattle.var_types.specs.declared.store.Store.TheVariants.{NonVolatile}
use Rattle.var_types.specs.History.{run}
use Rattle.var_types.specs.Kept.{kept, volume}
use Rattle.var_types.specs.State.{State, start}
use Rattle.var_types.specs.Stores.{Stores, part}
use Rattle.var_types.specs.Walk.{IsSound}

module _ (e : EngineState) (before : List ℕ) (limit : ℕ) (whole : IsWhole e) (sure : e.1.0 ≡ None) (side : e.1.1 ≡ opened_side e.1.1.stores.non_volatile limit) where
  -- the state now is the first
  pub state_first : state_of e.1.1 ≡ first_state e.1.1
  unfolding state_of
  state_first = ap (λ (log : List Change). run (first_state e.1.1) (history_in log)) (ap (λ (s : Side). s.log) side)

  pub opening_is : state_of e.1.1 ≡ start (kept before) limit → kept (bytes_of e.0) ≡ kept before → IsOpening (opening_of e) (bytes_of e.0) limit
  unfolding volume
  opening_is state keeps = record {
    size = whole.size;
    state = sym state_first ∙ state ∙ ap (λ variables. start variables limit) (sym keeps);
    stores =
        ap (λ (s : Side). s.opening) side
        ∙ ap (λ (bytes : List ℕ). let s : Stores = record (opened_side e.1.1.stores.non_volatile limit).opening { non_volatile = bytes } in s) (sym (whole.volume sure));
    means = whole.consistent.means 0 (omega arith);
    keeps = whole.kept sure ∙ ap (λ (s : State). part NonVolatile s.variables) state_first;
    sound = subst IsSound state_first whole.consistent.sound;
  }

  pub own_is : own_of e ≡ own_at_first (opening_of e) (bytes_of e.0)
  own_is =
      ap (λ (s : Side). let w : Writer = record { log = s.log; stores = s.stores; image = bytes_of e.0 } in w) side
      ∙ ap (λ (s : Side). let w : Writer = record { log = []; stores = s.opening; image = bytes_of e.0 } in w) (sym side)
