-- The session of calls that were made processor by processor, where nothing failed: they were stepped through the one-thread service.
use Rattle.std.proofs.Common.{◌≡◌, ℕ, ◌+◌, Bool, true, false, List, [], ◌∷◌, ◌++◌, length, length-append, take, All, refl, sym, ap, subst, ◌∙◌, append_assoc, if◌then◌else◌}
use Rattle.std.proofs.lemmas.List.{append-nil}
use Rattle.std.proofs.lemmas.List.Elements.{All-head, All-tail}
use Rattle.std.proofs.Math.Seq.{take-append_seam}
use Rattle.report_text.specs.Session.{history_from}
use Rattle.var_types.proofs.Sessions.{changed_after, counted_after, kept_after, run-append}
use Rattle.var_types.specs.declared.answered.Answered.{Answered}
use Rattle.var_types.specs.declared.answered.Route.TheVariants.{Plain}
use Rattle.var_types.specs.History.{Entry, IsRightAt, run}
use Rattle.var_types.specs.Session.{AreAllRight, ArePlain, AreRight, AreStepped, changes_from, entry_of, state_after}
use Rattle.var_types.specs.State.{State}
use Rattle.var_types.specs.Step.{is_change, step}
use Rattle.varsvc.specs.Runs.{AreInTurn, IsCalmAnswer, ProcessorsAreStepped, all_answered}

module _ (start : State) (history : List Entry) where
  -- ---- one call, which stands behind the changes so far

  -- what the changes so far lead to
  record IsSoFar (done : List Entry) (state : State) : Type 0 where
    leads : run start done ≡ state
    counts : state.made ≡ length done

  -- the reply is the one-thread service's there
  reply_at : (done rest : List Entry) (state : State) (processor index : ℕ) (x : Answered) → IsSoFar done state → history ≡ done ++ rest
      → x.place ≡ length done → IsRightAt start history x.place processor index x.call x.reply → IsCalmAnswer x → x.reply ≡ (step state x.call).0
  reply_at done rest state processor index x so_far is place right calm =
      right.reply_is.same calm.0 calm.1
      ∙ ap (λ (es : List Entry). (step (run start (take x.place es)) x.call).0) is
      ∙ ap (λ (n : ℕ). (step (run start (take n (done ++ rest))) x.call).0) place
      ∙ ap (λ (es : List Entry). (step (run start es) x.call).0) (take-append_seam done rest)
      ∙ ap (λ (s : State). (step s x.call).0) so_far.leads

  module _ (done : List Entry) (state : State) (so_far : IsSoFar done state) (processor index : ℕ) (x : Answered) (reply : x.reply ≡ (step state x.call).0) where
    -- the changes so far behind the call
    behind_change : is_change x.reply ≡ true → IsSoFar (done ++ entry_of processor index x ∷ []) (state_after state x)
    behind_change change = record {
      leads =
          run-append start done (entry_of processor index x ∷ []) ∙ ap (λ (s : State). (step s x.call).1) so_far.leads
          ∙ sym (changed_after state x (λ _. reply) change);
      counts =
          counted_after state x (λ _. reply) change ∙ ap (λ n. n + 1) so_far.counts ∙ sym (length-append done (entry_of processor index x ∷ []));
    }

    behind_same : is_change x.reply ≡ false → IsSoFar (done ++ []) (state_after state x)
    behind_same same = record {
      leads = ap (run start) (append-nil done) ∙ so_far.leads ∙ sym (kept_after state x (λ _. reply) same);
      counts =
          ap (λ (s : State). s.made) (kept_after state x (λ _. reply) same) ∙ so_far.counts ∙ sym (ap (λ (es : List Entry). length es) (append-nil done));
    }

    -- what holds behind a call, whether it is a change or not
    go_on : (later : List Entry) (rest : List Answered) (Then : Type 0) (change : Bool) → is_change x.reply ≡ change
        → history ≡ done ++ (if change then entry_of processor index x ∷ later else later) → AreInTurn (if change then length done + 1 else length done) rest
        → ((more : List Entry) → IsSoFar (done ++ more) (state_after state x) → history ≡ (done ++ more) ++ later → AreInTurn (length (done ++ more)) rest → Then)
        → Then
    go_on later rest Then true e is in_turn go =
        go (entry_of processor index x ∷ []) (behind_change e) (is ∙ sym (append_assoc done (entry_of processor index x ∷ []) later))
        (subst (λ (n : ℕ). AreInTurn n rest) (sym (length-append done (entry_of processor index x ∷ []))) in_turn)
    go_on later rest Then false e is in_turn go =
        go [] (behind_same e) (is ∙ ap (λ (es : List Entry). es ++ later) (sym (append-nil done)))
        (subst (λ (n : ℕ). AreInTurn n rest) (sym (ap (λ (es : List Entry). length es) (append-nil done))) in_turn)

  -- ---- the calls of a processor, and those of the ones behind it

  -- the calls behind some are stepped from where these lead
  abbrev AreSteppedBehind : List Entry → List Answered → Type 0
  AreSteppedBehind later rest =
      (done : List Entry) (state : State) → IsSoFar done state → history ≡ done ++ later → AreInTurn (length done) rest → AreStepped state rest

  stepped : (done : List Entry) (state : State) (processor index : ℕ) (xs : List Answered) (later : List Entry) (rest : List Answered) → IsSoFar done state
      → history ≡ done ++ (changes_from processor index xs ++ later) → AreRight start history processor index xs → AreInTurn (length done) (xs ++ rest)
      → ArePlain xs → All IsCalmAnswer (xs ++ rest) → (All IsCalmAnswer rest → AreSteppedBehind later rest) → AreStepped state (xs ++ rest)
  stepped done state processor index [] later rest so_far is right in_turn plain calm go = go calm done state so_far is in_turn
  stepped done state processor index (x ∷ xs) later rest so_far is right in_turn plain calm go =
      let entries = changes_from processor (index + 1) xs in
      let reply = reply_at done (changes_from processor index (x ∷ xs) ++ later) state processor index x so_far is in_turn.0 right.0
      (All-head IsCalmAnswer x (xs ++ rest) calm) in (
        in_turn.0 ∙ sym so_far.counts,
        All-head (λ (a : Answered). a.route ≡ Plain) x xs plain,
        λ _. reply,
        go_on done state so_far processor index x reply (entries ++ later) (xs ++ rest) (AreStepped (state_after state x) (xs ++ rest)) (is_change x.reply) refl
            (is ∙ ap (λ (es : List Entry). done ++ es) (spread (is_change x.reply) (entry_of processor index x) entries later)) in_turn.1
            (λ more on same in_turn_on.
            stepped (done ++ more) (state_after state x) processor (index + 1) xs later rest on same right.1 in_turn_on
            (All-tail (λ (a : Answered). a.route ≡ Plain) x xs plain) (All-tail IsCalmAnswer x (xs ++ rest) calm) go),
      )
    where
      -- one entry more or none, before others
      spread : (change : Bool) (entry : Entry) (es later : List Entry)
          → (if change then entry ∷ es else es) ++ later ≡ (if change then entry ∷ (es ++ later) else es ++ later)
      spread true entry es later = refl
      spread false entry es later = refl

  all_stepped : (done : List Entry) (state : State) (processor : ℕ) (processors : List (List Answered)) → IsSoFar done state
      → history ≡ done ++ history_from processor processors → AreAllRight start history processor processors
      → AreInTurn (length done) (all_answered processors) → All ArePlain processors → All IsCalmAnswer (all_answered processors)
      → AreStepped state (all_answered processors)
  all_stepped done state processor [] so_far is right in_turn plain calm = tt
  all_stepped done state processor (xs ∷ rest) so_far is right in_turn plain calm =
      stepped done state processor 0 xs (history_from (processor + 1) rest) (all_answered rest) so_far is right.0 in_turn (All-head ArePlain xs rest plain) calm
      (λ calm_on done_on state_on on same in_turn_on.
      all_stepped done_on state_on (processor + 1) rest on same right.1 in_turn_on (All-tail ArePlain xs rest plain) calm_on)

pub processors_stepped : ProcessorsAreStepped
processors_stepped first processors start legal in_turn calm =
    all_stepped first (history_from 0 processors) [] first 0 processors (record { leads = refl; counts = start }) refl legal.right in_turn legal.plain calm
