-- When a processor's step changes nothing.
use Rattle.std.proofs.Common.{◌≡◌, ◌≢◌, ℕ, ◌<◌, ◌≤◌, List, [], ◌∷◌, length, Option, Some, None, refl, sym, ap, subst, ◌∙◌, inl, inr, ⊎_elim, arith}
use Rattle.std.proofs.lemmas.Option.{slice_get_within}
use Rattle.std.specs.Prelude.{slice_get}
use Rattle.var_types.specs.declared.call.Call.{Call}
use Rattle.svc_core.proofs.Points.{call_get, point_get}
use Rattle.svc_core.specs.declared.machine.Machine.{Machine}
use Rattle.svc_core.specs.declared.point.Point.{Point}
use Rattle.svc_core.specs.Events.{IsStillFor, IsStuck, IsToEnter}
use Rattle.svc_core.specs.Machine.{IsReady, IsStillOf, world_of}
use Rattle.svc_core.specs.Progress.{call_at, point_at}
use Rattle.svc_core.specs.World.{Processor}
use Rattle.svc_core.specs.Writer.{Opening, Writer}

none_left : (calls : List Call) → slice_get calls 0 ≡ None → calls ≡ []
none_left [] e = refl
none_left (c ∷ cs) e = cc

-- the calls of which one is the first
first : (calls : List Call) (call : Call) → slice_get calls 0 ≡ Some call → (later : List Call) × (calls ≡ call ∷ later)
first [] call e = cc
first (c ∷ cs) call e = let same : c ≡ call = cc in (cs, ap (λ (d : Call). d ∷ cs) same)

module _ (m : Machine) (p : ℕ) where
  -- a fact of each processor that may be there
  still_by : ((opening : Opening) (own : Writer) (a : Processor) → slice_get m.progress.processors p ≡ Some a → IsStuck (world_of opening own m) a) → IsStillOf m p
  still_by f = λ opening own. by opening own (slice_get m.progress.processors p) refl
    where
      by : (opening : Opening) (own : Writer) (at : Option Processor) → slice_get m.progress.processors p ≡ at → IsStillFor (world_of opening own m) at
      by opening own None e = tt
      by opening own (Some a) e = f opening own a e

  pub beyond_still : length m.progress.processors ≤ p → IsStillOf m p
  beyond_still far = still_by (λ opening own a get. let near : p < length m.progress.processors = slice_get_within m.progress.processors p a get in absurd (omega (arith, far, near)))

  pub none_still : call_at m.progress.processors p ≡ None → IsStillOf m p
  none_still none = still_by (λ opening own a get. inl (none_left a.calls (sym (call_get m.progress.processors p a get) ∙ none)))

  module _ (call : Call) (there : call_at m.progress.processors p ≡ Some call) where
    calls_of : (a : Processor) → slice_get m.progress.processors p ≡ Some a → (later : List Call) × (a.calls ≡ call ∷ later)
    calls_of a get = first a.calls call (sym (call_get m.progress.processors p a get) ∙ there)

    has_one : (a : Processor) → slice_get m.progress.processors p ≡ Some a → a.calls ≡ [] → ⊥
    has_one a get none = let e : call ∷ (calls_of a get).0 ≡ [] = sym (calls_of a get).1 ∙ none in cc

    pub free_ready : m.writer_lock ≡ 0 → IsReady m p
    free_ready free = λ opening own a get stuck.
        ⊎_elim (λ (none : a.calls ≡ []). has_one a get none) (λ (busy : (m.writer_lock ≢ 0) × IsToEnter a.point a.calls). busy.0 free) stuck

    module _ (x : Point) (at : point_at m.progress.processors p ≡ Some x) where
      point_is : (a : Processor) → slice_get m.progress.processors p ≡ Some a → x ≡ a.point
      point_is a get = let e : Some x ≡ Some a.point = sym at ∙ point_get m.progress.processors p a get in cc

      pub waits_still : m.writer_lock ≢ 0 → ((later : List Call) → IsToEnter x (call ∷ later)) → IsStillOf m p
      waits_still busy enters = still_by (λ opening own a get.
          let one = calls_of a get in
          inr (busy, subst (λ (y : Point). IsToEnter y a.calls) (point_is a get) (subst (IsToEnter x) (sym one.1) (enters one.0))))

      pub goes_ready : ((later : List Call) → IsToEnter x (call ∷ later) → ⊥) → IsReady m p
      goes_ready goes = λ opening own a get stuck.
          let one = calls_of a get in
          ⊎_elim (λ (none : a.calls ≡ []). has_one a get none)
          (λ (busy : (m.writer_lock ≢ 0) × IsToEnter a.point a.calls).
          goes one.0 (subst (IsToEnter x) one.1 (subst (λ (y : Point). IsToEnter y a.calls) (sym (point_is a get)) busy.1))) stuck
