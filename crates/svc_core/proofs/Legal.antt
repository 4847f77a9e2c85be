-- The session so far of a world is legal.
use Rattle.std.proofs.Common.{◌≡◌, ℕ, zero, suc, ◌<◌, List, [], ◌∷◌, ◌++◌, length, map, All, Option, Some, None, refl, sym, subst, ◌∙◌}
use Rattle.std.proofs.lemmas.List.{length-map}
use Rattle.std.specs.Prelude.{slice_get}
use Rattle.var_trace.specs.LegalSession.{HasItsChanges, IsLegalFor}
use Rattle.var_trace.specs.Routes.{IsRouted}
use Rattle.var_trace.specs.StoresAfter.{history_in}
use Rattle.var_types.specs.declared.answered.Answered.{Answered}
use Rattle.var_types.specs.declared.call.Call.{Call}
use Rattle.var_types.specs.History.{Entry}
use Rattle.var_types.specs.Session.{changes_from, entries_of}
use Rattle.svc_core.specs.Invariant.{IsConsistent, owed}
use Rattle.svc_core.specs.Laws.{IsLegalWorld}
use Rattle.svc_core.specs.Stages.{taken}
use Rattle.svc_core.specs.World.{Processor, World}

-- what is at a place of a mapped list is the image of what is there
record HasSource (xs : List Processor) (p : ℕ) (answered : List Answered) : Type 0 where
  source : Processor
  there : slice_get xs p ≡ Some source
  is : source.answered ≡ answered

source_of : (xs : List Processor) (p : ℕ) (answered : List Answered) → slice_get (map (λ (a : Processor). a.answered) xs) p ≡ Some answered
    → HasSource xs p answered
source_of [] p answered h = cc
source_of (x ∷ xs) zero answered h = record { source = x; there = refl; is = cc }
source_of (x ∷ xs) (suc p) answered h = let s = source_of xs p answered h in record { source = s.source; there = s.there; is = s.is }

-- what a processor owes is at most one entry, of its first call without an answer
changes_owed : (history : List Entry) (q : ℕ) (answered : List Answered) (entry : Option ℕ) (calls : List Call)
    → entries_of q history ≡ changes_from q 0 answered ++ owed entry q (length answered) calls → HasItsChanges history q answered
changes_owed history q answered None calls h = record { unanswered = None; is = h; next = tt }
changes_owed history q answered (Some n) [] h = record { unanswered = None; is = h; next = tt }
changes_owed history q answered (Some n) (call ∷ calls) h = record {
  unanswered = Some (record { number = n; processor = q; index = length answered; call = call });
  is = h;
  next = refl;
}

-- the session so far is legal
pub legal_world : (w : World) → IsConsistent w → IsLegalWorld w
legal_world w k = record { each = each_legal; changes = k.history.changes; known = subst (λ (n : ℕ). All (λ (e : Entry). e.processor < n) (history_in w.writer.log)) (sym as_many) k.history.known }
  where
    as_many : length (map (λ (a : Processor). a.answered) w.processors) ≡ w.count
    as_many = length-map w.processors (λ (a : Processor). a.answered) ∙ k.bounds.all

    each_legal : (p : ℕ) (answered : List Answered) → slice_get (map (λ (a : Processor). a.answered) w.processors) p ≡ Some answered
        → IsLegalFor w.opening.start (history_in w.writer.log) (length (map (λ (a : Processor). a.answered) w.processors)) p answered
    each_legal p answered h =
        let s = source_of w.processors p answered h in
        let past = (k.each p s.source s.there).past in
        subst (IsLegalFor w.opening.start (history_in w.writer.log) (length (map (λ (a : Processor). a.answered) w.processors)) p) s.is
        (record {
          right = past.right;
          ordered = past.ordered;
          once = changes_owed (history_in w.writer.log) p s.source.answered (taken s.source.point) s.source.calls past.once;
          routed = subst (λ (n : ℕ). All (IsRouted n p) s.source.answered) (sym as_many) past.routed;
        })
