-- What the processor that takes a step knows, and what it forms and answers.
use Rattle.std.proofs.Common.{◌≡◌, ℕ, ◌+◌, ◌<◌, ◌≤◌, Bool, true, false, List, [], ◌∷◌, ◌++◌, length, take, Option, Some, None, refl, sym, ap, subst, ◌∙◌, arith}
use Rattle.std.proofs.lemmas.List.{append-nil}
use Rattle.std.proofs.lemmas.List.Elements.{All-append, All-cons, All-nil, All-head, All-tail}
use Rattle.std.specs.Prelude.{slice_get, if◌then◌else◌, IfSome}
use Rattle.var_trace.specs.declared.change.Change.{Change}
use Rattle.var_trace.specs.Routes.{IsReadRoute, IsRouteBy, IsRouted, is_read}
use Rattle.var_trace.specs.StoresAfter.{bytes_at, history_in}
use Rattle.var_types.proofs.DeviceErrors.{no_device_step}
use Rattle.var_types.proofs.LegalSessions.{AreRight-more, changes_from-more}
use Rattle.var_types.proofs.Soundness.{IsSound-run}
use Rattle.var_types.specs.declared.answered.Answered.{Answered}
use Rattle.var_types.specs.declared.answered.Route.{Route}
use Rattle.var_types.specs.declared.answered.Route.TheVariants.{Plain, Flushed, Deferred}
use Rattle.var_types.specs.declared.call.Call.{Call}
use Rattle.var_types.specs.declared.reply.Reply.{Reply}
use Rattle.var_types.specs.DeviceErrors.{IsReplyIn, is_device_error}
use Rattle.var_types.specs.History.{Entry, IsRightAt}
use Rattle.var_types.specs.Session.{AreOrderedFrom, changes_from, entry_of, place_behind}
use Rattle.var_types.specs.State.{State}
use Rattle.var_types.specs.Step.{is_change, step}
use Rattle.var_types.specs.Stores.{Stores}
use Rattle.var_types.specs.Walk.{IsSound}
use Rattle.pending_range.specs.declared.ranges.Ranges.{Ranges}
use Rattle.svc_core.proofs.Histories.{length-history}
use Rattle.svc_core.proofs.Looks.{look_right, read_no_change}
use Rattle.svc_core.specs.declared.point.Point.{Point}
use Rattle.svc_core.specs.Invariant.{AreBelow, EachAt, HasCall, History, IsConsistent, IsFormed, OnFound, OnFormed, OnLoaded, Past, owed}
use Rattle.svc_core.specs.Stages.{Formed, Kind, none, reads, writes}
use Rattle.svc_core.specs.World.{Processor, World, look}
use Rattle.svc_core.specs.Writer.{Opening, state_at}

-- what the processor knows at its point
pub own : (w : World) (p : ℕ) (a : Processor) → IsConsistent w → slice_get w.processors p ≡ Some a → (x : Point) → a.point ≡ x
    → EachAt w p a.calls a.answered x
own w p a k get x e = subst (EachAt w p a.calls a.answered) e (k.each p a get)

-- its call is of this kind
pub call_reads : (calls later : List Call) (call : Call) → calls ≡ call ∷ later → HasCall reads calls → is_read call ≡ true
call_reads calls later call e h = subst (HasCall reads) e h

pub call_writes : (calls later : List Call) (call : Call) → calls ≡ call ∷ later → HasCall writes calls → is_read call ≡ false
call_writes calls later call e h = subst (HasCall writes) e h

module _ (opening : Opening) (log : List Change) (made count q : ℕ) (calls : List Call) (answered : List Answered) where
  -- all else is kept at another point
  pub past_with : (in_call other : Kind) (load load' find find' : Option ℕ) (form form' : Option Formed) (entry : Option ℕ)
      → Past opening log made count q calls answered in_call load find form entry → HasCall other calls → OnLoaded made answered load'
      → OnFound count q other find' → OnFormed opening log made count q calls answered form'
      → Past opening log made count q calls answered other load' find' form' entry
  past_with in_call other load load' find find' form form' entry k has loads finds forms = record {
    has = has;
    right = k.right;
    ordered = k.ordered;
    behind_made = k.behind_made;
    routed = k.routed;
    once = k.once;
    loads = loads;
    finds = finds;
    forms = forms;
  }

  -- a reply that is right at a place within the history, as no change of it
  right_read : (call : Call) (place : ℕ) (reply : Reply) → is_read call ≡ true → place ≤ length log → IsReplyIn (state_at opening log place) call reply
      → IsRightAt opening.start (history_in log) place q (length answered) call reply
  right_read call place reply is_one within right = record {
    in_history = omega (arith, length-history log);
    reply_is = right;
    one_entry = λ change.
        let lost : true ≡ false = sym change ∙ read_no_change (state_at opening log place) call reply is_one right in cc;
  }

  -- the formed reply of a read
  pub formed_read : (call : Call) (later : List Call) → calls ≡ call ∷ later → is_read call ≡ true → (place : ℕ) (route : Route) (reply : Reply)
      → IsReplyIn (state_at opening log place) call reply → place ≤ made → made ≤ length log → AreBelow place answered
      → IsReadRoute count q place route
      → IsFormed opening log made count q calls answered (record { place = place; route = Some route; reply = reply; late = true })
  formed_read call later is is_one place route reply right within in_log below routed = record {
    call = call;
    later = later;
    calls_are = is;
    right = right_read call place reply is_one (omega arith) right;
    within = within;
    behind_all = below;
    routed = subst (λ (b : Bool). IsRouteBy b (is_change reply) count q place route) (sym is_one) routed;
    below = λ late change. let lost : true ≡ false = sym change ∙ read_no_change (state_at opening log place) call reply is_one right in cc;
    change = λ late. cc;
  }

-- a look in the stores after the first changes is right there
pub looked : (opening : Opening) (count made : ℕ) (log : List Change) (stores : Stores) (ranges : Ranges) (flushed : ℕ)
    → History opening count made log stores ranges flushed → IsSound opening.start → (at : Stores) (place : ℕ) (call : Call)
    → at ≡ bytes_at opening.stores log place → place ≤ length log → is_read call ≡ true
    → IsReplyIn (state_at opening log place) call (look at call)
looked opening count made log stores ranges flushed h sound at place call is within is_one =
    subst (λ (s : Stores). IsReplyIn (state_at opening log place) call (look s call)) (sym is)
    (look_right (bytes_at opening.stores log place) (state_at opening log place) call (h.means place within)
    (IsSound-run opening.start (take place (history_in log)) sound) is_one)

-- a reply of the one-thread service is one
pub reply_of_step : (state : State) (call : Call) (reply : Reply) → reply ≡ (step state call).0 → IsReplyIn state call reply
reply_of_step state call reply is = record {
  same = λ had done. is;
  device = λ failed. let lost : true ≡ false = sym failed ∙ ap is_device_error is ∙ no_device_step state call in cc;
}

-- a route of the writer's side is that of a change
pub flushed_change : (call : Call) (change : Bool) (count q place : ℕ) → is_read call ≡ false → IsRouteBy (is_read call) change count q place Flushed
    → change ≡ true
flushed_change call true count q place other routed = refl
flushed_change call false count q place other routed =
    let plain : Flushed ≡ Plain = subst (λ (b : Bool). IsRouteBy b false count q place Flushed) other routed in cc

pub deferred_change : (call : Call) (change : Bool) (count q place holder : ℕ) → is_read call ≡ false
    → IsRouteBy (is_read call) change count q place (Deferred holder) → change ≡ true
deferred_change call true count q place holder other routed = refl
deferred_change call false count q place holder other routed =
    let plain : Deferred holder ≡ Plain = subst (λ (b : Bool). IsRouteBy b false count q place (Deferred holder)) other routed in cc

-- places in order stay in order with one more that is above them
ordered_more : (least : ℕ) (answered : List Answered) (a : Answered) → least ≤ a.place → AreBelow a.place answered → AreOrderedFrom least answered
    → AreOrderedFrom least (answered ++ a ∷ [])
ordered_more least [] a low below ordered = (low, tt)
ordered_more least (x ∷ rest) a low below ordered = (
  ordered.0,
  ordered_more (place_behind x) rest a (All-head (λ (b : Answered). place_behind b ≤ a.place) x rest below)
      (All-tail (λ (b : Answered). place_behind b ≤ a.place) x rest below) ordered.1,
)

-- the place behind an answered call is within made
behind_within : (place made : ℕ) (change : Bool) → place ≤ made → (change ≡ true → place < made) → (if change then place + 1 else place) ≤ made
behind_within place made true within below = let low : place < made = below refl in omega arith
behind_within place made false within below = within

module _ (opening : Opening) (log : List Change) (made count q : ℕ) (calls : List Call) (answered : List Answered) (call : Call) (later : List Call)
    (is : calls ≡ call ∷ later) (route : Route) (form : Formed) (fixed : form.route ≡ Some route) (late : form.late ≡ true) (entry : Option ℕ) where
  abbrev one : Answered
  one = record { call = call; place = form.place; route = route; reply = form.reply }

  abbrev more : List Answered
  more = answered ++ one ∷ []

  -- a processor answers its call by the reply that it has formed
  pub answers : (in_call : Kind) (load find : Option ℕ) → Past opening log made count q calls answered in_call load find (Some form) entry
      → owed entry q (length answered) (call ∷ later) ≡ changes_from q (length answered) (one ∷ [])
      → Past opening log made count q later more none None None None None
  answers in_call load find k owes = record {
    has = tt;
    right =
        AreRight-more opening.start (history_in log) q 0 (length answered) answered one (let n : length answered ≡ 0 + length answered = omega arith in n) k.right
        (subst (λ (c : Call). IsRightAt opening.start (history_in log) form.place q (length answered) c form.reply) same k.forms.right);
    ordered = ordered_more 0 answered one (omega arith) k.forms.behind_all k.ordered;
    behind_made =
        All-append (λ (a : Answered). place_behind a ≤ made) answered (one ∷ []) k.behind_made
        (All-cons (λ (a : Answered). place_behind a ≤ made) one [] (behind_within form.place made (is_change form.reply) k.forms.within (k.forms.below late))
        (All-nil (λ (a : Answered). place_behind a ≤ made)));
    routed =
        All-append (IsRouted count q) answered (one ∷ []) k.routed (All-cons (IsRouted count q) one [] its_route (All-nil (IsRouted count q)));
    once =
        k.once ∙ ap (λ (es : List Entry). changes_from q 0 answered ++ es) (ap (owed entry q (length answered)) is ∙ owes)
        ∙ changes_from-more q 0 (length answered) answered one (let n : length answered ≡ 0 + length answered = omega arith in n)
        ∙ sym (append-nil (changes_from q 0 more));
    loads = tt;
    finds = tt;
    forms = tt;
  }
    where
      same : k.forms.call ≡ call
      same = let e : k.forms.call ∷ k.forms.later ≡ call ∷ later = sym k.forms.calls_are ∙ is in cc

      its_route : IsRouteBy (is_read call) (is_change form.reply) count q form.place route
      its_route =
          subst (λ (c : Call). IsRouteBy (is_read c) (is_change form.reply) count q form.place route) same
          (subst (λ (r : Option Route). IfSome r (λ (route : Route). IsRouteBy (is_read k.forms.call) (is_change form.reply) count q form.place route)) fixed
          k.forms.routed)

-- a read owes no entry
pub read_owes : (q index place : ℕ) (call : Call) (later : List Call) (route : Route) (reply : Reply) → is_change reply ≡ false
    → owed None q index (call ∷ later) ≡ changes_from q index (record { call = call; place = place; route = route; reply = reply } ∷ [])
read_owes q index place call later route reply same =
    let a : Answered = record { call = call; place = place; route = route; reply = reply } in
    ap (λ (b : Bool). if b then entry_of q index a ∷ [] else []) (sym same)

-- any other call owes one where it is a change
pub write_owes : (q index place : ℕ) (call : Call) (later : List Call) (route : Route) (reply : Reply)
    → owed (if is_change reply then Some place else None) q index (call ∷ later)
    ≡ changes_from q index (record { call = call; place = place; route = route; reply = reply } ∷ [])
write_owes q index place call later route reply = by (is_change reply)
  where
    by : (b : Bool) → owed (if b then Some place else None) q index (call ∷ later)
        ≡ (if b then record { number = place; processor = q; index = index; call = call } ∷ [] else [])
    by true = refl
    by false = refl
