-- The moments of a flash that lists its steps.
use Rattle.std.proofs.Common.{◌≡◌, inl, inr, ⊎_elim, ◌⊎◌, ℕ, ◌-◌, ◌≤◌, List, [], ◌∷◌, ◌++◌, length, take, drop, sym, ap, subst, ◌∙◌, arith, length-append}
use Rattle.std.proofs.lemmas.List.{drop-append-le, take-append-le}
use Rattle.svc_core.specs.declared.flash_step.FlashStep.{FlashStep}
use Rattle.svc_core.specs.FlashSteps.{IsStepLeft, StepFits, StepsFit, after_step, after_steps}
use Rattle.play_steps.specs.ListedFlash.{IsLeftIn, IsLeftSince, IsListed, ListedState, StaysListed, bytes_of, listed, moment_of}
use Rattle.play_steps.specs.Told.{after_more, at_moment}

-- what may be left in steps with one more may be left in those before, or in the one more
left_more : (steps : List FlashStep) (step : FlashStep) (image left : List ℕ) → IsStepLeft step (after_steps steps image) (after_step step (after_steps steps image))
    → IsLeftIn (steps ++ step ∷ []) image left → IsLeftIn steps image left ⊎ IsStepLeft step (after_steps steps image) left
left_more [] step image left done (inl before) = inl before
left_more [] step image left done (inr (inl within)) = inr within
left_more [] step image left done (inr (inr behind)) = inr (subst (IsStepLeft step image) (sym behind) done)
left_more (s ∷ steps) step image left done (inl before) = inl (inl before)
left_more (s ∷ steps) step image left done (inr (inl within)) = inl (inr (inl within))
left_more (s ∷ steps) step image left done (inr (inr later)) =
    ⊎_elim (λ early. inl (inr (inr early))) inr (left_more steps step (after_step s image) left done later)

module _ (old : ListedState) (step : FlashStep) (done : IsStepLeft step (bytes_of old) (after_step step (bytes_of old))) where
  -- what may have been left since a moment, with one step more
  since_more : (t : ℕ) (left : List ℕ) → t ≤ moment_of old
      → IsLeftIn (drop (t - 1) (old.steps ++ step ∷ [])) (after_steps (take (t - 1) (old.steps ++ step ∷ [])) old.first) left
      → IsLeftSince old t left ⊎ IsStepLeft step (bytes_of old) left
  since_more t left early by =
      let low : t - 1 ≤ length old.steps = omega arith in
      let start = after_steps (take (t - 1) old.steps) old.first in
      let split =
      subst (λ (steps : List FlashStep). IsLeftIn (drop (t - 1) old.steps ++ step ∷ []) (after_steps steps old.first) left)
      (take-append-le (t - 1) old.steps (step ∷ []) low)
      (subst (λ (steps : List FlashStep). IsLeftIn steps (after_steps (take (t - 1) (old.steps ++ step ∷ [])) old.first) left)
      (drop-append-le (t - 1) old.steps (step ∷ []) low) by) in
      ⊎_elim (λ early. inl (inl early)) (λ within. inr (subst (λ (image : List ℕ). IsStepLeft step image left) (at_moment old.steps old.first (t - 1)) within))
      (left_more (drop (t - 1) old.steps) step start left
      (subst (λ (image : List ℕ). IsStepLeft step image (after_step step image)) (sym (at_moment old.steps old.first (t - 1))) done) split)

  -- a step that is done and listed
  pub stays_listed : StaysListed (IsStepLeft step) old (listed old step)
  stays_listed = record {
    later = omega (arith, length-append old.steps (step ∷ []));
    each = λ t left early since. ⊎_elim (since_more t left early) (λ mark. inl (inr mark)) since;
    now = subst (IsStepLeft step (bytes_of old)) (sym (after_more old.steps (step ∷ []) old.first)) done;
  }

-- steps that fit, and one more
fit_more : (steps : List FlashStep) (step : FlashStep) → StepsFit steps → StepFits step → StepsFit (steps ++ step ∷ [])
fit_more [] step fit fits = (fits, tt)
fit_more (s ∷ steps) step fit fits = (fit.0, fit_more steps step fit.1 fits)

module _ (bytes first now : List ℕ) (steps all : List FlashStep) (faults : ℕ) (step : FlashStep) (k : IsListed bytes first steps) (is : now ≡ after_step step bytes) (listed_is : all ≡ steps ++ step ∷ []) where
  -- the bytes behind a step that is done and listed
  pub bytes_done : after_steps all first ≡ after_step step (after_steps steps first)
  bytes_done = ap (λ (s : List FlashStep). after_steps s first) listed_is ∙ after_more steps (step ∷ []) first

  pub now_is : now ≡ after_steps all first
  now_is = is ∙ ap (after_step step) k.is ∙ sym bytes_done

  -- such a step leaves what the flash keeps
  pub listed_more : StepFits step → length now ≡ length bytes → IsListed now first all
  listed_more fits len = record {
    size = len ∙ k.size;
    is = now_is;
    fit = subst StepsFit (sym listed_is) (fit_more steps step k.fit fits);
  }

  -- and as many bytes
  pub size_done : length now ≡ length bytes → length (after_steps all first) ≡ length (after_steps steps first)
  size_done len = ap length (sym now_is) ∙ len ∙ ap length k.is

  -- its moments
  pub stays_done : IsStepLeft step bytes now
      → StaysListed (IsStepLeft step) (record { first = first; steps = steps; faults = faults }) (record { first = first; steps = all; faults = faults })
  stays_done left =
      subst (λ (s : List FlashStep). StaysListed (IsStepLeft step) (record { first = first; steps = steps; faults = faults }) (record { first = first; steps = s; faults = faults }))
      (sym listed_is)
      (stays_listed (record { first = first; steps = steps; faults = faults }) step
      (subst (λ (image : List ℕ). IsStepLeft step image (after_step step image)) k.is (subst (IsStepLeft step bytes) is left)))

-- a call that lists nothing
pub stays_unlisted : (IsLeft : List ℕ → List ℕ → Type 0) (first : List ℕ) (steps same : List FlashStep) (faults more : ℕ) → same ≡ steps
    → IsLeft (after_steps steps first) (after_steps steps first)
    → StaysListed IsLeft (record { first = first; steps = steps; faults = faults }) (record { first = first; steps = same; faults = more })
stays_unlisted IsLeft first steps same faults more is left =
    subst (λ (s : List FlashStep). StaysListed IsLeft (record { first = first; steps = steps; faults = faults }) (record { first = first; steps = s; faults = more }))
    (sym is) (record { later = omega arith; each = λ t left early since. inl since; now = left })
