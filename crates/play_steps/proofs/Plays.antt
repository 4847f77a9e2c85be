-- What a play comes to, by the world in which its schedule's events have happened.
use Rattle.std.proofs.Common.{◌≡◌, ℕ, ◌+◌, true, false, List, [], ◌∷◌, ◌++◌, length, map, Option, Some, None, refl, sym, ap, subst, ◌∙◌, inl, inr, ⊎_elim}
use Rattle.std.specs.Prelude.{IfSome}
use Rattle.script_text.specs.declared.power_loss.PowerLoss.{PowerLoss}
use Rattle.script_text.specs.Schedule.{ScheduleParts}
use Rattle.var_trace.specs.declared.change.Change.{Change}
use Rattle.var_trace.specs.LegalSession.{IsLegalSoFar}
use Rattle.var_trace.specs.Session.{SessionParts, answers_of}
use Rattle.var_trace.specs.StoresAfter.{history_in}
use Rattle.var_types.specs.declared.call.Call.{Call}
use Rattle.var_types.specs.declared.store.Store.TheVariants.{NonVolatile}
use Rattle.var_types.specs.History.{after}
use Rattle.var_types.specs.Kept.{content, kept}
use Rattle.var_types.specs.State.{State, start}
use Rattle.var_types.specs.Stores.{part}
use Rattle.svc_core.proofs.Histories.{history_more, length-history, length-more}
use Rattle.svc_core.specs.Events.{Powered}
use Rattle.svc_core.specs.Power.{IsUnanswered, Keeps, KeepsBy, planned}
use Rattle.svc_core.specs.Scene.{Scene, first_world, powered}
use Rattle.svc_core.specs.World.{World}
use Rattle.svc_core.specs.Writer.{Opening, kept_after}
use Rattle.play_steps.proofs.Schedules.{happens_opening, turns_opening}
use Rattle.play_steps.specs.Play.{IsBegun, IsPlayed, IsScheduled, KeepsHistory, LosesPower, content_left, play_limit, variables_after, variables_in}

-- what an image keeps are the variables of its content
variables_kept : (image : List ℕ) → variables_in (content image) ≡ kept image
unfolding kept
variables_kept image = refl

-- the variables after a whole history
after_all : (opening : Opening) (log : List Change) (n : ℕ) → n ≡ length log → kept_after opening log n ≡ variables_after opening.start (history_in log)
after_all opening log n e = ap (λ (k : ℕ). part NonVolatile (after opening.start (history_in log) k).variables) (e ∙ sym (length-history log))

-- what is kept is the history's, or with the one change more of a call without an answer
keeps_history : (w : World) (left : List ℕ) → Keeps w left → KeepsHistory w w.opening.start (history_in w.writer.log) (content left)
keeps_history w left keeps = by (planned w) keeps.kept keeps.unanswered
  where
    log : List Change
    log = w.writer.log

    before : kept left ≡ kept_after w.opening log (length log) → variables_in (content left) ≡ variables_after w.opening.start (history_in log)
    before is = variables_kept left ∙ is ∙ after_all w.opening log (length log) refl

    by : (change : Option Change) → KeepsBy change w left → IfSome change (IsUnanswered w)
        → KeepsHistory w w.opening.start (history_in log) (content left)
    by None is none = inl (before is)
    by (Some change) either unanswered =
        ⊎_elim (λ (is : kept left ≡ kept_after w.opening log (length log)). inl (before is))
        (λ (is : kept left ≡ kept_after w.opening (log ++ change ∷ []) (length log + 1)).
        inr (
          change,
          unanswered,
          variables_kept left ∙ is
              ∙ after_all w.opening (log ++ change ∷ []) (length log + 1) (sym (length-more log change))
              ∙ ap (variables_after w.opening.start) (history_more log change),
        )) either

-- a power loss changes no opening
power_opening : (power : Option PowerLoss) (v next : Powered) → LosesPower power v next → next.world.opening ≡ v.world.opening
power_opening None v next same = ap (λ (u : Powered). u.world.opening) same
power_opening (Some loss) v next happens = happens_opening v next _ happens

-- nor does a schedule
schedule_opening : (schedule : ScheduleParts) (v next : Powered) → IsScheduled schedule v next → next.world.opening ≡ v.world.opening
schedule_opening schedule v next is = power_opening schedule.power is.last next is.power ∙ turns_opening schedule.turns v is.last is.turns

module _ (calls : List (List Call)) (schedule : ScheduleParts) (first behind : Scene) (session : SessionParts) (left : Option (List ℕ))
    (begun : IsBegun calls first) (ran : IsScheduled schedule (powered first) (powered behind))
    (lost : IfSome schedule.power (λ loss. behind.lost ≡ true)) where
  -- the world before its first event
  began : powered first ≡ record { lost = false; world = first_world first.world.opening first.world.writer.flash calls }
  began = λ i. record { lost = begun.live i; world = begun.first i }

  -- the session starts without variables
  started : behind.world.opening.start ≡ start [] (play_limit calls)
  started = ap (λ (o : Opening). o.start) (schedule_opening schedule (powered first) (powered behind) ran) ∙ begun.blank

  -- what is left keeps the session's variables
  left_keeps : (power : Option PowerLoss) → IfSome power (λ loss. behind.lost ≡ true) → (behind.lost ≡ true → Keeps behind.world behind.world.writer.flash)
      → IfSome (content_left power behind.world.writer.flash) (KeepsHistory behind.world behind.world.opening.start (history_in behind.world.writer.log))
  left_keeps None gone keeps = tt
  left_keeps (Some loss) gone keeps = keeps_history behind.world behind.world.writer.flash (keeps gone)

  pub played : session.entries.log ≡ behind.world.writer.log → answers_of session ≡ map (λ a. a.answered) behind.world.processors
      → left ≡ content_left schedule.power behind.world.writer.flash
      → IsLegalSoFar behind.world.opening.start (history_in behind.world.writer.log) (map (λ a. a.answered) behind.world.processors)
      → (behind.lost ≡ true → Keeps behind.world behind.world.writer.flash)
      → IsPlayed (record { calls = calls; schedule = schedule }) session left
  played log answers left_is legal keeps = record {
    opening = first.world.opening;
    image = first.world.writer.flash;
    opens = begun.opens;
    blank = begun.blank;
    behind = powered behind;
    events = subst (λ (v : Powered). IsScheduled schedule v (powered behind)) began ran;
    log = log;
    answers = answers;
    left = left_is;
    legal =
        subst (λ (s : State). IsLegalSoFar s (history_in session.entries.log) (answers_of session)) started
        (subst (λ (x : List Change). IsLegalSoFar behind.world.opening.start (history_in x) (answers_of session)) (sym log)
        (subst (IsLegalSoFar behind.world.opening.start (history_in behind.world.writer.log)) (sym answers) legal));
    keeps =
        subst (λ (s : State). IfSome left (KeepsHistory behind.world s (history_in session.entries.log))) started
        (subst (λ (x : List Change). IfSome left (KeepsHistory behind.world behind.world.opening.start (history_in x))) (sym log)
        (subst (λ (o : Option (List ℕ)). IfSome o (KeepsHistory behind.world behind.world.opening.start (history_in behind.world.writer.log))) (sym left_is)
        (left_keeps schedule.power lost keeps)));
  }
