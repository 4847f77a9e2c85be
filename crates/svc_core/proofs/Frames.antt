-- What a processor knows while another one takes a step.
use Rattle.std.proofs.Common.{◌≡◌, ◌≢◌, ℕ, ◌+◌, ◌≤◌, Bool, true, false, List, [], ◌∷◌, ◌++◌, length, Option, Some, None, sym, ap, subst, ◌∙◌, arith}
use Rattle.std.proofs.lemmas.Bool.{ne_eqb}
use Rattle.std.proofs.lemmas.List.{append-nil}
use Rattle.std.proofs.lemmas.List.Elements.{All-weaker, filter-append}
use Rattle.std.specs.Prelude.{◌==◌, cond}
use Rattle.var_trace.specs.declared.change.Change.{Change}
use Rattle.var_trace.specs.StoresAfter.{history_in}
use Rattle.var_types.proofs.LegalSessions.{AreRight-longer, IsRightAt-longer}
use Rattle.var_types.specs.declared.answered.Answered.{Answered}
use Rattle.var_types.specs.declared.call.Call.{Call}
use Rattle.var_types.specs.declared.reply.Reply.{Reply}
use Rattle.var_types.specs.History.{Entry, IsRightAt}
use Rattle.var_types.specs.Session.{AreRight, entries_of, place_behind}
use Rattle.var_types.specs.Stores.{Stores}
use Rattle.svc_core.proofs.Histories.{history_more}
use Rattle.svc_core.specs.Invariant.{AreBelow, AtFlush, AtGrip, AtStage, IsFormed, OnFormed, OnLoaded, Past}
use Rattle.svc_core.specs.Stages.{Flushing, Formed, Grip, Kind, Stage}
use Rattle.svc_core.specs.Stages as stages
use Rattle.svc_core.specs.World.{CacheSide}
use Rattle.svc_core.specs.Writer.{Opening, Writer}

-- the lock word isn't in this processor's hand, before and behind the step
pub grip_apart : (lock next : ℕ) (cached later : CacheSide) (q : ℕ) (g : Grip) → lock ≢ q + 1 → next ≢ q + 1 → AtGrip lock cached q g
    → AtGrip next later q g
grip_apart lock next cached later q stages.free was will k = will
grip_apart lock next cached later q stages.took was will k = absurd (was k.0)
grip_apart lock next cached later q (stages.saw made) was will k = absurd (was k.0)
grip_apart lock next cached later q (stages.level held home) was will k = absurd (was k.0)
grip_apart lock next cached later q (stages.behind made held home) was will k = absurd (was k.0)

-- the writer's lock isn't in this processor's hand
module _ (opening : Opening) (desk next made later : ℕ) (log more : List Change) (stores other : Stores) (flash left : List ℕ) (own new : Writer)
    (q : ℕ) (calls : List Call) (index : ℕ) (was : desk ≢ q + 1) (will : next ≢ q + 1) where
  pub stage_apart : (s : Stage) → AtStage opening desk made log stores flash own q calls index s
      → AtStage opening next later more other left new q calls index s
  stage_apart stages.away k = will
  stage_apart stages.calm k = absurd (was k.0)
  stage_apart (stages.counted place) k = absurd (was k.0)
  stage_apart (stages.plans place reply steps change) k = absurd (was k.0)
  stage_apart (stages.ahead place) k = absurd (was k.0)

-- the lock word isn't the writer's side's, before and behind the step
module _ (opening : Opening) (lock next desk other : ℕ) (cached later : CacheSide) (made raised : ℕ) (log more : List Change) (flushed swept q : ℕ) where
  pub flush_free : lock ≢ 255 → next ≢ 255 → (f : Flushing) → AtFlush opening lock desk cached made log flushed q f
      → AtFlush opening next other later raised more swept q f
  flush_free was will stages.off k = λ e. absurd (will e)
  flush_free was will (stages.on home true) k = absurd (was k.0)
  flush_free was will (stages.on home false) k = absurd (was k.0)

  -- this processor doesn't have the writer's lock
  pub flush_apart : desk ≢ q + 1 → other ≢ q + 1 → (f : Flushing) → AtFlush opening lock desk cached made log flushed q f
      → AtFlush opening next other later raised more swept q f
  flush_apart was will stages.off k = λ e. will
  flush_apart was will (stages.on home true) k = absurd (was k.1)
  flush_apart was will (stages.on home false) k = absurd (was k.1)

-- places that are at most this one are at most a greater one
pub below_more : (n m : ℕ) (answered : List Answered) → n ≤ m → AreBelow n answered → AreBelow m answered
below_more n m answered more below =
    All-weaker (λ (a : Answered). place_behind a ≤ n) (λ (a : Answered). place_behind a ≤ m) (λ a low. omega arith) answered below

module _ (opening : Opening) (log : List Change) (made raised count q : ℕ) (calls : List Call) (answered : List Answered) (up : made ≤ raised) where
  loads_raised : (load : Option ℕ) → OnLoaded made answered load → OnLoaded raised answered load
  loads_raised None k = tt
  loads_raised (Some n) k = (omega (arith, k.0), k.1)

  form_raised : (form : Formed) → IsFormed opening log made count q calls answered form → IsFormed opening log raised count q calls answered form
  form_raised form k = record {
    call = k.call;
    later = k.later;
    calls_are = k.calls_are;
    right = k.right;
    within = omega (arith, k.within);
    behind_all = k.behind_all;
    routed = k.routed;
    below = λ late change. omega (arith, k.below late change);
    change = k.change;
  }

  forms_raised : (form : Option Formed) → OnFormed opening log made count q calls answered form → OnFormed opening log raised count q calls answered form
  forms_raised None k = tt
  forms_raised (Some form) k = form_raised form k

  -- made is raised
  pub past_raised : (in_call : Kind) (load find : Option ℕ) (form : Option Formed) (entry : Option ℕ)
      → Past opening log made count q calls answered in_call load find form entry → Past opening log raised count q calls answered in_call load find form entry
  past_raised in_call load find form entry k = record {
    has = k.has;
    right = k.right;
    ordered = k.ordered;
    behind_made = below_more made raised answered up k.behind_made;
    routed = k.routed;
    once = k.once;
    loads = loads_raised load k.loads;
    finds = k.finds;
    forms = forms_raised form k.forms;
  }

-- the changes of a processor in a longer history, by whether the new one is its own
pub entries_more : (log : List Change) (change : Change) (q : ℕ)
    → entries_of q (history_in (log ++ change ∷ [])) ≡ entries_of q (history_in log) ++ entries_of q (change.entry ∷ [])
entries_more log change q =
    ap (entries_of q) (history_more log change) ∙ filter-append (λ (e : Entry). e.processor == q) (history_in log) (change.entry ∷ [])

module _ (opening : Opening) (log : List Change) (change : Change) (made count q : ℕ) (calls : List Call) (answered : List Answered) where
  abbrev more : List Change
  more = log ++ change ∷ []

  -- a right reply stays right
  pub right_more : (place index : ℕ) (call : Call) (reply : Reply) → IsRightAt opening.start (history_in log) place q index call reply
      → IsRightAt opening.start (history_in more) place q index call reply
  right_more place index call reply right =
      subst (λ (es : List Entry). IsRightAt opening.start es place q index call reply) (sym (history_more log change))
      (IsRightAt-longer opening.start (history_in log) (change.entry ∷ []) place q index call reply right)

  pub all_right_more : AreRight opening.start (history_in log) q 0 answered → AreRight opening.start (history_in more) q 0 answered
  all_right_more right =
      subst (λ (es : List Entry). AreRight opening.start es q 0 answered) (sym (history_more log change))
      (AreRight-longer opening.start (history_in log) (change.entry ∷ []) q 0 answered right)

  form_more : (form : Formed) → IsFormed opening log made count q calls answered form → IsFormed opening more made count q calls answered form
  form_more form k = record {
    call = k.call;
    later = k.later;
    calls_are = k.calls_are;
    right = right_more form.place (length answered) k.call form.reply k.right;
    within = k.within;
    behind_all = k.behind_all;
    routed = k.routed;
    below = k.below;
    change = k.change;
  }

  forms_more : (form : Option Formed) → OnFormed opening log made count q calls answered form → OnFormed opening more made count q calls answered form
  forms_more None k = tt
  forms_more (Some form) k = form_more form k

  -- another processor's change stands in no other's
  others_change : change.entry.processor ≢ q → entries_of q (history_in more) ≡ entries_of q (history_in log)
  others_change apart =
      entries_more log change q
      ∙ ap (λ (own : Bool). entries_of q (history_in log) ++ cond own (change.entry ∷ []) []) (ne_eqb change.entry.processor q apart)
      ∙ append-nil (entries_of q (history_in log))

  -- the history takes another processor's change
  pub past_more : change.entry.processor ≢ q → (in_call : Kind) (load find : Option ℕ) (form : Option Formed) (entry : Option ℕ)
      → Past opening log made count q calls answered in_call load find form entry → Past opening more made count q calls answered in_call load find form entry
  past_more apart in_call load find form entry k = record {
    has = k.has;
    right = all_right_more k.right;
    ordered = k.ordered;
    behind_made = k.behind_made;
    routed = k.routed;
    once = others_change apart ∙ k.once;
    loads = k.loads;
    finds = k.finds;
    forms = forms_more form k.forms;
  }
