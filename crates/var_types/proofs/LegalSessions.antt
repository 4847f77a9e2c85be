-- A legal session grows by a call of one of its processors that is answered after its history.
use Rattle.std.proofs.Common.{◌≡◌, ◌≢◌, ◌+◌, ◌<◌, ◌≤◌, Bool, true, false, cond, List, [], ◌∷◌, ◌++◌, length, refl, sym, subst, ap, ◌∙◌, length-append, arith}
use Rattle.std.proofs.lemmas.Bool.{ne_eqb}
use Rattle.std.proofs.lemmas.List.{append-nil, get_or_append_left, take-append-le}
use Rattle.std.proofs.lemmas.List.Elements.{All-append, All-cons, All-from_recursion, All-nil, filter-append, recursion_from_All}
use Rattle.std.proofs.lemmas.Option.{get_or_from_slice_get, slice_get-get_or, slice_get_within}
use Rattle.std.specs.List.{AllByRecursion}
use Rattle.std.specs.Prelude.{ℕ, All, ◌==◌, if◌then◌else◌, slice_get, Some}
use Rattle.var_types.proofs.Sessions.{IsRightAt-answered, changes_below, entries_of-own}
use Rattle.var_types.specs.declared.answered.Answered.{Answered}
use Rattle.var_types.specs.declared.answered.Route.TheVariants.{Plain}
use Rattle.var_types.specs.declared.call.Call.{Call}
use Rattle.var_types.specs.declared.reply.Reply.{Reply}
use Rattle.var_types.specs.DeviceErrors.{IsReplyIn}
use Rattle.var_types.specs.History.{Entry, IsRightAt, run}
use Rattle.var_types.specs.Session.{AreAllRight, AreChangesOf, AreOrderedFrom, ArePlain, AreRight, IsAnsweredAfter, IsLegalSession, changes_from, entries_of, entry_of, place_behind}
use Rattle.var_types.specs.State.{State}
use Rattle.var_types.specs.Step.{is_change}

-- a change of a history stands at its place in a longer one
pub slice_get-longer : (history more : List Entry) (place : ℕ) (entry : Entry) → slice_get history place ≡ Some entry
    → slice_get (history ++ more) place ≡ Some entry
slice_get-longer history more place entry h =
    let within : place < length history = slice_get_within history place entry h in
    let longer : place < length (history ++ more) = omega (arith, length-append history more) in
    slice_get-get_or (history ++ more) place entry longer
    ∙ ap Some (get_or_append_left history more entry place within ∙ get_or_from_slice_get history place entry entry h)

module _ (state : State) (history more : List Entry) where
  -- a reply that is right at a place stays right in a longer history
  pub IsRightAt-longer : (place processor index : ℕ) (call : Call) (reply : Reply) → IsRightAt state history place processor index call reply
      → IsRightAt state (history ++ more) place processor index call reply
  IsRightAt-longer place processor index call reply right = record {
    in_history = omega (arith, right.in_history, length-append history more);
    reply_is =
        subst (λ (es : List Entry). IsReplyIn (run state es) call reply) (sym (take-append-le place history more right.in_history))
        right.reply_is;
    one_entry = λ change. slice_get-longer history more place _ (right.one_entry change);
  }

  -- so do a processor's replies
  pub AreRight-longer : (processor index : ℕ) (answered : List Answered) → AreRight state history processor index answered
      → AreRight state (history ++ more) processor index answered
  AreRight-longer processor index [] right = tt
  AreRight-longer processor index (a ∷ rest) right =
      (IsRightAt-longer a.place processor index a.call a.reply right.0, AreRight-longer processor (index + 1) rest right.1)

  -- so do those of all processors
  AreAllRight-longer : (processor : ℕ) (processors : List (List Answered)) → AreAllRight state history processor processors
      → AreAllRight state (history ++ more) processor processors
  AreAllRight-longer processor [] right = tt
  AreAllRight-longer processor (answered ∷ rest) right =
      (AreRight-longer processor 0 answered right.0, AreAllRight-longer (processor + 1) rest right.1)

-- a processor's replies are right with one more that is
pub AreRight-more : (state : State) (history : List Entry) (processor index n : ℕ) (answered : List Answered) (a : Answered)
    → n ≡ index + length answered → AreRight state history processor index answered → IsRightAt state history a.place processor n a.call a.reply
    → AreRight state history processor index (answered ++ a ∷ [])
AreRight-more state history processor index n [] a e right one =
    (subst (λ (n : ℕ). IsRightAt state history a.place processor n a.call a.reply) (omega (arith, e)) one, tt)
AreRight-more state history processor index n (x ∷ rest) a e right one =
    (right.0, AreRight-more state history processor (index + 1) n rest a (omega (arith, e)) right.1 one)

-- the call behind a right one may be answered after the history
behind_within : (state : State) (history : List Entry) (processor index : ℕ) (a : Answered)
    → IsRightAt state history a.place processor index a.call a.reply → place_behind a ≤ length history
behind_within state history processor index a right = by (is_change a.reply) refl
  where
    by : (change : Bool) → is_change a.reply ≡ change → (if change then a.place + 1 else a.place) ≤ length history
    by true e = omega (arith, slice_get_within history a.place (entry_of processor index a) (right.one_entry e))
    by false e = right.in_history

-- right calls with their places in order have them in order with one more, at the end of the history
AreOrderedFrom-more : (state : State) (history : List Entry) (processor index least : ℕ) (answered : List Answered) (a : Answered)
    → a.place ≡ length history → least ≤ length history → AreRight state history processor index answered → AreOrderedFrom least answered
    → AreOrderedFrom least (answered ++ a ∷ [])
AreOrderedFrom-more state history processor index least [] a place low right ordered = (omega (arith, place), tt)
AreOrderedFrom-more state history processor index least (x ∷ rest) a place low right ordered = (
  ordered.0,
  AreOrderedFrom-more state history processor (index + 1) (place_behind x) rest a place
      (behind_within state history processor index x right.0) right.1 ordered.1,
)

-- the changes of a processor's calls and of one more
pub changes_from-more : (processor index n : ℕ) (answered : List Answered) (a : Answered) → n ≡ index + length answered
    → changes_from processor index answered ++ changes_from processor n (a ∷ []) ≡ changes_from processor index (answered ++ a ∷ [])
changes_from-more processor index n [] a e = ap (λ n. changes_from processor n (a ∷ [])) (omega (arith, e))
changes_from-more processor index n (x ∷ rest) a e =
    by (is_change x.reply) (changes_from-more processor (index + 1) n rest a (omega (arith, e)))
  where
    by : (change : Bool)
        → changes_from processor (index + 1) rest ++ changes_from processor n (a ∷ []) ≡ changes_from processor (index + 1) (rest ++ a ∷ [])
        → (if change then entry_of processor index x ∷ changes_from processor (index + 1) rest else changes_from processor (index + 1) rest)
        ++ changes_from processor n (a ∷ [])
        ≡ (if change then entry_of processor index x ∷ changes_from processor (index + 1) (rest ++ a ∷ []) else changes_from processor (index + 1) (rest ++ a ∷ []))
    by true h = ap (λ es. entry_of processor index x ∷ es) h
    by false h = h

-- no change of a processor is another's
entries_of-other : (processor other index : ℕ) (a : Answered) → processor ≢ other → entries_of other (changes_from processor index (a ∷ [])) ≡ []
entries_of-other processor other index a apart = by (is_change a.reply)
  where
    by : (change : Bool) → entries_of other (if change then entry_of processor index a ∷ [] else []) ≡ []
    by true = ap (λ own. cond own (entry_of processor index a ∷ []) []) (ne_eqb processor other apart)
    by false = refl

module _ (history : List Entry) (processor index : ℕ) (a : Answered) where
  -- the change that the call makes, if it makes one
  abbrev more : List Entry
  more = changes_from processor index (a ∷ [])

  -- another processor's changes stay the same
  entries_of-others : (other : ℕ) → processor ≢ other → entries_of other (history ++ more) ≡ entries_of other history
  entries_of-others other apart =
      filter-append (λ entry. entry.processor == other) history more
      ∙ ap (λ es. entries_of other history ++ es) (entries_of-other processor other index a apart)
      ∙ append-nil (entries_of other history)

  -- so do those of all processors above
  AreChangesOf-above : (above : ℕ) (rest : List (List Answered)) → processor < above → AreChangesOf history above rest
      → AreChangesOf (history ++ more) above rest
  AreChangesOf-above above [] low once =
      All-append (λ entry. entry.processor < above) history more once (changes_below processor above index low (a ∷ []))
  AreChangesOf-above above (answered ∷ rest) low once =
      (entries_of-others above (λ e. omega arith) ∙ once.0, AreChangesOf-above (above + 1) rest (omega arith) once.1)

  -- the processor's own changes are its calls' and this one's
  AreChangesOf-own : (answered : List Answered) → index ≡ length answered → entries_of processor history ≡ changes_from processor 0 answered
      → entries_of processor (history ++ more) ≡ changes_from processor 0 (answered ++ a ∷ [])
  AreChangesOf-own answered e own =
      filter-append (λ entry. entry.processor == processor) history more
      ∙ ap (λ es. es ++ entries_of processor more) own
      ∙ ap (λ es. changes_from processor 0 answered ++ es) (entries_of-own processor index (a ∷ []))
      ∙ changes_from-more processor 0 index answered a (omega (arith, e))

  -- the changes of a history with this call's are those of the processors with this call
  AreChangesOf-more : (first : ℕ) (front : List (List Answered)) (answered : List Answered) (rest : List (List Answered))
      → processor ≡ first + length front → index ≡ length answered → AreChangesOf history first (front ++ answered ∷ rest)
      → AreChangesOf (history ++ more) first (front ++ (answered ++ a ∷ []) ∷ rest)
  AreChangesOf-more first [] answered rest e n once =
      let same : processor ≡ first = omega (arith, e) in (
        subst (λ (p : ℕ). entries_of p (history ++ more) ≡ changes_from p 0 (answered ++ a ∷ [])) same
            (AreChangesOf-own answered n (subst (λ (p : ℕ). entries_of p history ≡ changes_from p 0 answered) (sym same) once.0)),
        AreChangesOf-above (first + 1) rest (omega (arith, e)) once.1,
      )
  AreChangesOf-more first (x ∷ front) answered rest e n once = (
    entries_of-others first (λ same. omega (arith, e, same)) ∙ once.0,
    AreChangesOf-more (first + 1) front answered rest (omega (arith, e)) n once.1,
  )

-- the replies of one of the processors are right
right_of : (state : State) (history : List Entry) (processor first : ℕ) (front : List (List Answered)) (answered : List Answered)
    (rest : List (List Answered)) → processor ≡ first + length front → AreAllRight state history first (front ++ answered ∷ rest)
    → AreRight state history processor 0 answered
right_of state history processor first [] answered rest e right =
    subst (λ (p : ℕ). AreRight state history p 0 answered) (omega (arith, e)) right.0
right_of state history processor first (x ∷ front) answered rest e right =
    right_of state history processor (first + 1) front answered rest (omega (arith, e)) right.1

-- all replies are right where those of one of the processors are replaced by right ones
AreAllRight-replaced : (state : State) (history : List Entry) (processor first : ℕ) (front : List (List Answered)) (old new : List Answered)
    (rest : List (List Answered)) → processor ≡ first + length front → AreRight state history processor 0 new
    → AreAllRight state history first (front ++ old ∷ rest) → AreAllRight state history first (front ++ new ∷ rest)
AreAllRight-replaced state history processor first [] old new rest e one right =
    (subst (λ (p : ℕ). AreRight state history p 0 new) (omega (arith, e)) one, right.1)
AreAllRight-replaced state history processor first (x ∷ front) old new rest e one right =
    (right.0, AreAllRight-replaced state history processor (first + 1) front old new rest (omega (arith, e)) one right.1)

-- what holds of all holds where one is replaced for which it holds
recursion_replaced : {X : Type 0} (P : X → Type 0) (front : List X) (old new : X) (rest : List X) → (P old → P new)
    → AllByRecursion P (front ++ old ∷ rest) → AllByRecursion P (front ++ new ∷ rest)
recursion_replaced P [] old new rest one h = (one h.0, h.1)
recursion_replaced P (x ∷ front) old new rest one h = (h.0, recursion_replaced P front old new rest one h.1)

All-replaced : {X : Type 0} (P : X → Type 0) (front : List X) (old new : X) (rest : List X) → (P old → P new)
    → All P (front ++ old ∷ rest) → All P (front ++ new ∷ rest)
All-replaced P front old new rest one h =
    All-from_recursion P (front ++ new ∷ rest)
    (recursion_replaced P front old new rest one (recursion_from_All P (front ++ old ∷ rest) h))

-- a legal session with one call more
pub IsLegalSession-more : (state : State) (history : List Entry) (front rest : List (List Answered)) (answered : List Answered) (a : Answered)
    → IsLegalSession state history (front ++ answered ∷ rest) → IsAnsweredAfter state history a
    → IsLegalSession state (history ++ changes_from (length front) (length answered) (a ∷ [])) (front ++ (answered ++ a ∷ []) ∷ rest)
IsLegalSession-more state history front rest answered a legal last =
    let p = length front in
    let n = length answered in
    let es = changes_from p n (a ∷ []) in
    let first : p ≡ 0 + length front = omega arith in
    let index : n ≡ 0 + length answered = omega arith in
    let right : AreRight state history p 0 answered = right_of state history p 0 front answered rest first legal.right in
    let one : IsRightAt state (history ++ es) a.place p n a.call a.reply =
    IsRightAt-answered state history [] p n a es last (ap (λ change. if change then entry_of p n a ∷ [] else [])) in
    record {
      right =
          AreAllRight-replaced state (history ++ es) p 0 front answered (answered ++ a ∷ []) rest first
          (AreRight-more state (history ++ es) p 0 n answered a index (AreRight-longer state history es p 0 answered right) one)
          (AreAllRight-longer state history es 0 (front ++ answered ∷ rest) legal.right);
      ordered =
          All-replaced (AreOrderedFrom 0) front answered (answered ++ a ∷ []) rest
          (AreOrderedFrom-more state history p 0 0 answered a last.place (omega arith) right) legal.ordered;
      once = AreChangesOf-more history p n a 0 front answered rest first refl legal.once;
      plain =
          All-replaced ArePlain front answered (answered ++ a ∷ []) rest
          (λ plain. All-append (λ a. a.route ≡ Plain) answered (a ∷ []) plain
          (All-cons (λ a. a.route ≡ Plain) a [] last.route (All-nil (λ a. a.route ≡ Plain)))) legal.plain;
    }
