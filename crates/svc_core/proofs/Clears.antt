-- What a step needs holds in a consistent world.
use Rattle.std.proofs.Common.{◌≡◌, ◌≢◌, ℕ, ◌+◌, ◌≤◌, true, List, [], ◌∷◌, length, take, Option, Some, refl, sym, subst, inl, arith}
use Rattle.std.specs.Prelude.{slice_get, IfSome, IsSome}
use Rattle.var_trace.specs.Routes.{is_read}
use Rattle.var_trace.specs.StoresAfter.{bytes_at, history_in}
use Rattle.var_types.proofs.Meaning.{apart_stores}
use Rattle.var_types.proofs.Soundness.{IsSound-run}
use Rattle.var_types.specs.declared.call.Call.{Call}
use Rattle.var_types.specs.declared.store.Store.TheVariants.{NonVolatile, Volatile}
use Rattle.var_types.specs.Stores.{Stores, map_in}
use Rattle.var_types.specs.TwoRegions.{AreApart}
use Rattle.svc_core.proofs.CacheRows.{mine_free}
use Rattle.svc_core.proofs.Facts.{own}
use Rattle.svc_core.proofs.MergeRows.{merged_is}
use Rattle.svc_core.proofs.Points.{call_get, point_get}
use Rattle.svc_core.specs.declared.machine.Machine.{Machine}
use Rattle.svc_core.specs.declared.point.Point.{Point}
use Rattle.svc_core.specs.declared.point.Point.TheVariants.{Look, Merge, AskLook, Decide, Write, Flush, Defer}
use Rattle.svc_core.specs.Events.{IsStuck}
use Rattle.svc_core.specs.FlashSteps.{StepFits}
use Rattle.svc_core.specs.Invariant.{HasCall, IsConsistent}
use Rattle.svc_core.specs.Machine.{IsClear, world_of}
use Rattle.svc_core.specs.Power.{step_at}
use Rattle.svc_core.specs.Progress.{call_at, point_at}
use Rattle.svc_core.specs.Stages.{reads}
use Rattle.svc_core.specs.World.{Processor, World}
use Rattle.svc_core.specs.Writer.{Opening, Writer}

-- a reader's first call is a read
first_reads : (calls : List Call) → HasCall reads calls → IfSome (slice_get calls 0) (λ c. is_read c ≡ true)
first_reads [] h = absurd h
first_reads (c ∷ cs) h = h

-- no key is in both stores after some of the changes
apart_at : (w : World) (k : IsConsistent w) (stores : Stores) (n : ℕ) → stores ≡ bytes_at w.opening.stores w.writer.log n → n ≤ length w.writer.log
    → AreApart (map_in NonVolatile stores.non_volatile) (map_in Volatile stores.volatile)
apart_at w k stores n is within =
    let sound = IsSound-run w.opening.start (take n (history_in w.writer.log)) k.bounds.sound in
    subst (λ (s : Stores). AreApart (map_in NonVolatile s.non_volatile) (map_in Volatile s.volatile)) (sym is)
    (apart_stores (bytes_at w.opening.stores w.writer.log n) _ sound.ordered (k.history.means n within))

module _ (opening : Opening) (at_hand : Writer) (m : Machine) (p : ℕ) (a : Processor) (k : IsConsistent (world_of opening at_hand m))
    (get : slice_get m.progress.processors p ≡ Some a) where
  w : World
  w = world_of opening at_hand m

  clear_at : (x : Point) → a.point ≡ x → x ≢ Decide → IsClear (slice_get a.calls 0) m x
  clear_at (Look place) at other =
      let o = own (world_of opening at_hand m) p a k get (Look place) at in
      let mine : m.lock ≡ p + 1 = o.grips.0 in
      let cache = k.cache.cache_is (mine_free (world_of opening at_hand m) p a k get mine) in
      (first_reads a.calls o.past.has, apart_at (world_of opening at_hand m) k m.cache m.held cache.0 (omega (arith, k.cache.held_is, k.history.made_in)))
  clear_at (Merge made held place) at other =
      let o = own (world_of opening at_hand m) p a k get (Merge made held place) at in
      let mine : m.lock ≡ p + 1 = o.grips.0 in
      let cache = k.cache.cache_is (mine_free (world_of opening at_hand m) p a k get mine) in (
        (first_reads a.calls o.past.has, apart_at (world_of opening at_hand m) k m.stores (length m.progress.log) k.history.stores_are (omega arith)),
        merged_is (world_of opening at_hand m) k m.held cache.0 cache.1 (omega (arith, k.cache.held_is, k.history.made_in)),
      )
  clear_at (AskLook holder) at other =
      let o = own (world_of opening at_hand m) p a k get (AskLook holder) at in
      (first_reads a.calls o.past.has, apart_at (world_of opening at_hand m) k m.stores (length m.progress.log) k.history.stores_are (omega arith))
  clear_at (Write place reply steps change) at other =
      let plan = (own (world_of opening at_hand m) p a k get (Write place reply steps change) at).stages.1 in
      (plan.fit, plan.inside, plan.room, k.history.sizes)
  clear_at (Flush place reply) at other = (own (world_of opening at_hand m) p a k get (Flush place reply) at).stages.1
  clear_at (Defer place reply holder) at other = (own (world_of opening at_hand m) p a k get (Defer place reply holder) at).stages.1
  clear_at Decide at other = absurd (other refl)
  clear_at x at other = tt

  pub clear : a.point ≢ Decide
      → IfSome (point_at m.progress.processors p) (λ x. IsClear (call_at m.progress.processors p) m x)
  clear other =
      subst (λ (o : Option Point). IfSome o (λ x. IsClear (call_at m.progress.processors p) m x)) (sym (point_get m.progress.processors p a get))
      (subst (λ (c : Option Call). IsClear c m a.point) (sym (call_get m.progress.processors p a get)) (clear_at a.point refl other))

  has_call : (calls : List Call) → (calls ≡ [] → ⊥) → IsSome (slice_get calls 0)
  has_call [] some = absurd (some refl)
  has_call (c ∷ cs) some = refl

  pub some_call : (IsStuck (world_of opening at_hand m) a → ⊥) → IsSome (call_at m.progress.processors p)
  some_call ready = subst IsSome (sym (call_get m.progress.processors p a get)) (has_call a.calls (λ none. ready (inl none)))

  -- the next flash step of a point lies within the image
  pub step_fits : (x : Point) → a.point ≡ x → IfSome (step_at x) StepFits
  step_fits (Write place reply (step ∷ steps) change) at =
      (own (world_of opening at_hand m) p a k get (Write place reply (step ∷ steps) change) at).stages.1.fit.0
  step_fits (Write place reply [] change) at = tt
  step_fits x at = tt
