-- What a processor's calls that are stepped one after the other leave, and that they are a legal session.
use Rattle.std.proofs.Common.{◌≡◌, ◌+◌, ◌<◌, ◌≤◌, Bool, true, false, cond, List, [], ◌∷◌, ◌++◌, length, refl, sym, subst, ap, ◌∙◌, append_assoc, length-append, arith}
use Rattle.std.proofs.lemmas.Bool.{eq-eqb}
use Rattle.std.proofs.lemmas.List.Elements.{All-cons, All-nil}
use Rattle.std.proofs.lemmas.Option.{slice_get-get_or}
use Rattle.std.proofs.Math.Seq.{get_or-append_seam, take-append_seam}
use Rattle.std.specs.Prelude.{ℕ, All, if◌then◌else◌, slice_get, take, get_or, Some}
use Rattle.var_types.proofs.DeviceErrors.{IsReplyIn-stepped}
use Rattle.var_types.proofs.Steps.{IsStep-step, memory_from_change}
use Rattle.var_types.specs.declared.answered.Answered.{Answered}
use Rattle.var_types.specs.declared.answered.Route.TheVariants.{Plain}
use Rattle.var_types.specs.DeviceErrors.{IsReplyIn}
use Rattle.var_types.specs.History.{Entry, IsRightAt, run}
use Rattle.var_types.specs.Laws.{changes_of, state_left}
use Rattle.var_types.specs.Session.{AreOrderedFrom, ArePlain, AreRight, AreStepped, IsAnsweredAfter, IsLegalSession, changes_from, entries_of, entry_of, history_of, place_behind, state_after}
use Rattle.var_types.specs.State.{State}
use Rattle.var_types.specs.Step.{is_change, lacks_memory, step}

module _ (state : State) (a : Answered) (right : lacks_memory a.call a.reply ≡ false → a.reply ≡ (step state a.call).0) where
  -- a call that makes no change leaves the state, out of memory or not
  kept_at : (memory : Bool) → lacks_memory a.call a.reply ≡ memory → is_change a.reply ≡ false → (if memory then state else (step state a.call).1) ≡ state
  kept_at true e same = refl
  kept_at false e same = (IsStep-step state a.call).kept (ap is_change (sym (right e)) ∙ same)

  -- a call that makes no change leaves the state
  pub kept_after : is_change a.reply ≡ false → state_after state a ≡ state
  kept_after same = kept_at (lacks_memory a.call a.reply) refl same

  -- a call that makes a change leaves what the one-thread service does
  pub changed_after : is_change a.reply ≡ true → state_after state a ≡ (step state a.call).1
  changed_after change = ap (λ memory. if memory then state else (step state a.call).1) (memory_from_change a.call a.reply change)

  -- a change is counted by one
  pub counted_after : is_change a.reply ≡ true → (state_after state a).made ≡ state.made + 1
  counted_after change =
      ap (λ (s : State). s.made) (changed_after change)
      ∙ (IsStep-step state a.call).counted (ap is_change (sym (right (memory_from_change a.call a.reply change))) ∙ change)

  -- the call behind comes after the changes so far
  pub behind_at : (change : Bool) → is_change a.reply ≡ change → a.place ≡ state.made
      → (if change then a.place + 1 else a.place) ≤ (state_after state a).made
  behind_at true e place = omega (arith, counted_after e)
  behind_at false e place = omega (arith, ap (λ (s : State). s.made) (kept_after e))

  -- what a call and the calls after it leave is what their changes leave
  left_at : (processor index : ℕ) (rest : List Answered) (es : List Entry) (change : Bool) → is_change a.reply ≡ change
      → state_left (state_after state a) rest ≡ run (state_after state a) es
      → state_left (state_after state a) rest ≡ run state (if change then entry_of processor index a ∷ es else es)
  left_at processor index rest es true e h = h ∙ ap (λ (s : State). run s es) (changed_after e)
  left_at processor index rest es false e h = h ∙ ap (λ (s : State). run s es) (kept_after e)

-- stepped calls leave what their changes leave
pub state_left-run : (state : State) (processor index : ℕ) (answered : List Answered) → AreStepped state answered
    → state_left state answered ≡ run state (changes_from processor index answered)
state_left-run state processor index [] stepped = refl
state_left-run state processor index (a ∷ rest) stepped =
    left_at state a stepped.2 processor index rest (changes_from processor (index + 1) rest) (is_change a.reply) refl
    (state_left-run (state_after state a) processor (index + 1) rest stepped.3)

-- what a history leaves is decided by the calls of its changes
pub run_from_changes : (state : State) (xs ys : List Entry) → changes_of xs ≡ changes_of ys → run state xs ≡ run state ys
run_from_changes state [] [] h = refl
run_from_changes state [] (y ∷ ys) h = cc
run_from_changes state (x ∷ xs) [] h = cc
run_from_changes state (x ∷ xs) (y ∷ ys) h =
    let call : x.call ≡ y.call = cc in
    let calls : changes_of xs ≡ changes_of ys = cc in
    run_from_changes (step state x.call).1 xs ys calls ∙ ap (λ c. run (step state c).1 ys) call

-- stepped calls have plain routes
ArePlain-stepped : (state : State) (answered : List Answered) → AreStepped state answered → ArePlain answered
ArePlain-stepped state [] stepped = All-nil (λ a. a.route ≡ Plain)
ArePlain-stepped state (a ∷ rest) stepped =
    All-cons (λ a. a.route ≡ Plain) a rest stepped.1 (ArePlain-stepped (state_after state a) rest stepped.3)

-- stepped calls have their places in order
AreOrderedFrom-stepped : (least : ℕ) (state : State) (answered : List Answered) → least ≤ state.made → AreStepped state answered
    → AreOrderedFrom least answered
AreOrderedFrom-stepped least state [] low stepped = tt
AreOrderedFrom-stepped least state (a ∷ rest) low stepped = (
  omega (arith, stepped.0),
  AreOrderedFrom-stepped (place_behind a) (state_after state a) rest (behind_at state a stepped.2 (is_change a.reply) refl stepped.0) stepped.3,
)

-- one history after another
pub run-append : (state : State) (xs ys : List Entry) → run state (xs ++ ys) ≡ run (run state xs) ys
run-append state [] ys = refl
run-append state (x ∷ xs) ys = run-append (step state x.call).1 xs ys

-- the front of two histories is the first
take-seam : (xs ys : List Entry) (n : ℕ) → n ≡ length xs → take n (xs ++ ys) ≡ xs
take-seam xs ys n e = ap (λ k. take k (xs ++ ys)) e ∙ take-append_seam xs ys

-- the change behind a history
pub slice_get-seam : (xs ys : List Entry) (y : Entry) (n : ℕ) → n ≡ length xs → slice_get (xs ++ y ∷ ys) n ≡ Some y
slice_get-seam xs ys y n e =
    let within : n < length (xs ++ y ∷ ys) = omega (arith, length-append xs (y ∷ ys)) in
    slice_get-get_or (xs ++ y ∷ ys) n y within ∙ ap Some (ap (λ k. get_or (xs ++ y ∷ ys) k y) e ∙ get_or-append_seam xs y ys y)

-- a call answered after a history is right at its place, where the changes from there on are these
pub IsRightAt-answered : (start : State) (done es : List Entry) (processor index : ℕ) (a : Answered) (rest : List Entry)
    → IsAnsweredAfter start done a → (is_change a.reply ≡ true → rest ≡ entry_of processor index a ∷ es)
    → IsRightAt start (done ++ rest) a.place processor index a.call a.reply
IsRightAt-answered start done es processor index a rest answered first = record {
  in_history = omega (arith, answered.place, length-append done rest);
  reply_is =
      subst (λ (es : List Entry). IsReplyIn (run start es) a.call a.reply) (sym (take-seam done rest a.place answered.place)) answered.reply;
  one_entry = λ change.
      ap (λ (es : List Entry). slice_get (done ++ es) a.place) (first change)
      ∙ slice_get-seam done es (entry_of processor index a) a.place answered.place;
}

-- the changes so far lead from the start to the state, and there are as many as it counts
record IsSoFar (start state : State) (done : List Entry) : Type 0 where
  leads : run start done ≡ state
  counts : state.made ≡ length done

module _ (start state : State) (done : List Entry) (so_far : IsSoFar start state done) (processor index : ℕ) (a : Answered) (es : List Entry)
    (place : a.place ≡ state.made) (route : a.route ≡ Plain) (right : lacks_memory a.call a.reply ≡ false → a.reply ≡ (step state a.call).0) where
  -- the changes so far, after one more
  IsSoFar-change : is_change a.reply ≡ true → IsSoFar start (state_after state a) (done ++ entry_of processor index a ∷ [])
  IsSoFar-change change = record {
    leads =
        run-append start done (entry_of processor index a ∷ []) ∙ ap (λ (s : State). (step s a.call).1) so_far.leads
        ∙ sym (changed_after state a right change);
    counts = omega (arith, counted_after state a right change, so_far.counts, length-append done (entry_of processor index a ∷ []));
  }

  -- the changes so far, after a call that makes none
  IsSoFar-same : is_change a.reply ≡ false → IsSoFar start (state_after state a) done
  IsSoFar-same same = record {
    leads = so_far.leads ∙ sym (kept_after state a right same);
    counts = ap (λ (s : State). s.made) (kept_after state a right same) ∙ so_far.counts;
  }

  -- a stepped call is answered after the changes so far
  IsAnsweredAfter-stepped : IsAnsweredAfter start done a
  IsAnsweredAfter-stepped = record {
    place = place ∙ so_far.counts;
    route = route;
    reply = subst (λ (s : State). IsReplyIn s a.call a.reply) (sym so_far.leads) (IsReplyIn-stepped state a.call a.reply right);
  }

  -- the calls after this one are right, a change or not
  rest_right : (change : Bool) → is_change a.reply ≡ change → (rest : List Answered)
      → ((more : List Entry) → IsSoFar start (state_after state a) more → AreRight start (more ++ es) processor (index + 1) rest)
      → AreRight start (done ++ (if change then entry_of processor index a ∷ es else es)) processor (index + 1) rest
  rest_right true e rest go =
      subst (λ (history : List Entry). AreRight start history processor (index + 1) rest)
      (append_assoc done (entry_of processor index a ∷ []) es) (go (done ++ entry_of processor index a ∷ []) (IsSoFar-change e))
  rest_right false e rest go = go done (IsSoFar-same e)

-- stepped calls are right at their places of the changes so far and their own
AreRight-stepped : (start state : State) (done : List Entry) (processor index : ℕ) (answered : List Answered) → IsSoFar start state done
    → AreStepped state answered → AreRight start (done ++ changes_from processor index answered) processor index answered
AreRight-stepped start state done processor index [] so_far stepped = tt
AreRight-stepped start state done processor index (a ∷ rest) so_far stepped =
    let es = changes_from processor (index + 1) rest in (
      IsRightAt-answered start done es processor index a (changes_from processor index (a ∷ rest))
          (IsAnsweredAfter-stepped start state done so_far processor index a es stepped.0 stepped.1 stepped.2)
          (ap (λ change. if change then entry_of processor index a ∷ es else es)),
      rest_right start state done so_far processor index a es stepped.0 stepped.1 stepped.2 (is_change a.reply) refl rest
          (λ more so_far. AreRight-stepped start (state_after state a) more processor (index + 1) rest so_far stepped.3),
    )

-- one change more may be a processor's own
own_case : (processor index : ℕ) (a : Answered) (es : List Entry) (change : Bool) → entries_of processor es ≡ es
    → entries_of processor (if change then entry_of processor index a ∷ es else es)
    ≡ (if change then entry_of processor index a ∷ es else es)
own_case processor index a es true h =
    let e = entry_of processor index a in
    ap (λ own. cond own (e ∷ entries_of processor es) (entries_of processor es)) (eq-eqb processor processor refl) ∙ ap (λ es. e ∷ es) h
own_case processor index a es false h = h

-- all changes that a processor's calls make are its own
pub entries_of-own : (processor index : ℕ) (answered : List Answered)
    → entries_of processor (changes_from processor index answered) ≡ changes_from processor index answered
entries_of-own processor index [] = refl
entries_of-own processor index (a ∷ rest) =
    own_case processor index a (changes_from processor (index + 1) rest) (is_change a.reply) (entries_of-own processor (index + 1) rest)

-- one change more is of a processor below this one
below_case : (above : ℕ) (entry : Entry) (es : List Entry) → entry.processor < above → All (λ entry. entry.processor < above) es
    → (change : Bool) → All (λ entry. entry.processor < above) (if change then entry ∷ es else es)
below_case above entry es low h true = All-cons (λ entry. entry.processor < above) entry es low h
below_case above entry es low h false = h

-- the changes that a processor's calls make are of a processor below any that is above it
pub changes_below : (processor above index : ℕ) → processor < above → (answered : List Answered)
    → All (λ entry. entry.processor < above) (changes_from processor index answered)
changes_below processor above index low [] = All-nil (λ entry. entry.processor < above)
changes_below processor above index low (a ∷ rest) =
    below_case above (entry_of processor index a) (changes_from processor (index + 1) rest) low
    (changes_below processor above (index + 1) low rest) (is_change a.reply)

-- stepped calls are a legal session
pub IsLegalSession-stepped : (state : State) (answered : List Answered) → state.made ≡ 0 → AreStepped state answered
    → IsLegalSession state (history_of answered) (answered ∷ [])
IsLegalSession-stepped state answered none stepped = record {
  right = (AreRight-stepped state state [] 0 0 answered (record { leads = refl; counts = none }) stepped, tt);
  ordered =
      All-cons (AreOrderedFrom 0) answered [] (AreOrderedFrom-stepped 0 state answered (omega arith) stepped) (All-nil (AreOrderedFrom 0));
  once = (entries_of-own 0 0 answered, changes_below 0 1 0 (omega arith) answered);
  plain = All-cons ArePlain answered [] (ArePlain-stepped state answered stepped) (All-nil ArePlain);
}
