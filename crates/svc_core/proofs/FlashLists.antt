-- The first of some flash steps.
use Rattle.std.proofs.Common.{◌≡◌, List, [], ◌∷◌, drop, Some, None, refl, ap, subst}
use Rattle.std.specs.Prelude.{slice_get}
use Rattle.svc_core.specs.declared.flash_step.FlashStep.{FlashStep}
use Rattle.svc_core.specs.FlashSteps.{StepFits, StepsFit}

pub first_fits : (steps : List FlashStep) (s : FlashStep) → slice_get steps 0 ≡ Some s → StepsFit steps → StepFits s
first_fits [] s h fit = cc
first_fits (t ∷ steps) s h fit = let same : t ≡ s = cc in subst StepFits same fit.0

pub none_left : (steps : List FlashStep) → slice_get steps 0 ≡ None → steps ≡ []
none_left [] h = refl
none_left (t ∷ steps) h = cc

pub some_left : (steps : List FlashStep) (s : FlashStep) → slice_get steps 0 ≡ Some s → steps ≡ s ∷ drop 1 steps
some_left [] s h = cc
some_left (t ∷ steps) s h = let same : t ≡ s = cc in ap (λ (u : FlashStep). u ∷ steps) same
