-- What the laws of a flash that lists its steps rest on.
use Rattle.std.proofs.Common.{◌≡◌, inl, inr, ⊎_elim, ℕ, ◌+◌, ◌-◌, ◌≤◌, List, [], ◌∷◌, ◌++◌, Some, length, take, drop, refl, sym, ap, subst, ◌∙◌, arith}
use Rattle.std.proofs.lemmas.List.{drop_all, take-append-drop, take_all}
use Rattle.svc_core.specs.declared.flash_step.FlashStep.{FlashStep}
use Rattle.svc_core.specs.FlashSteps.{after_step, after_steps}
use Rattle.play_steps.specs.ListedFlash.{IsLeftIn, IsLeftSince, ListedState, bytes_of, moment_of}

-- steps, and others behind them
pub after_more : (steps more : List FlashStep) (image : List ℕ) → after_steps (steps ++ more) image ≡ after_steps more (after_steps steps image)
after_more [] more image = refl
after_more (step ∷ steps) more image = after_more steps more (after_step step image)

-- the image behind the last step is among those that may be left
last_left : (steps : List FlashStep) (image : List ℕ) → IsLeftIn steps image (after_steps steps image)
last_left [] image = refl
last_left (step ∷ steps) image = inr (inr (last_left steps (after_step step image)))

-- the steps before a moment, and those behind it
pub at_moment : (steps : List FlashStep) (image : List ℕ) (k : ℕ) → after_steps (drop k steps) (after_steps (take k steps) image) ≡ after_steps steps image
at_moment steps image k =
    sym (after_more (take k steps) (drop k steps) image) ∙ ap (λ (all : List FlashStep). after_steps all image) (take-append-drop k steps)

-- the bytes that are told are the bytes
bytes_told : (bytes left : List ℕ) → Some bytes ≡ Some left → left ≡ bytes
bytes_told bytes left told = cc

-- the bytes now may have been left since any moment
pub now_left : (flash : ListedState) (t : ℕ) (left : List ℕ) → Some (bytes_of flash) ≡ Some left → IsLeftSince flash t left
now_left flash t left told =
    let start = after_steps (take (t - 1) flash.steps) flash.first in
    inl
    (subst (IsLeftIn (drop (t - 1) flash.steps) start) (at_moment flash.steps flash.first (t - 1) ∙ sym (bytes_told (bytes_of flash) left told))
    (last_left (drop (t - 1) flash.steps) start))

-- since the present moment they alone
pub only_now_left : (flash : ListedState) (left : List ℕ) → IsLeftSince flash (moment_of flash) left → left ≡ bytes_of flash
only_now_left flash left since =
    let all : length flash.steps ≤ moment_of flash - 1 = omega arith in
    ⊎_elim
    (λ by.
    subst (λ (steps : List FlashStep). left ≡ after_steps steps flash.first) (take_all (moment_of flash - 1) flash.steps all)
    (subst (λ (steps : List FlashStep). IsLeftIn steps (after_steps (take (moment_of flash - 1) flash.steps) flash.first) left)
    (drop_all (moment_of flash - 1) flash.steps all) by))
    (λ mark. absurd (let none : length flash.steps + 1 ≡ 0 = mark.0 in omega arith))
    since
