use Rattle.std.proofs.Common.{ℕ, List, refl, ap, subst, ◌∙◌}
use Rattle.flash_dev.specs.RecordingFlash.{RecordedState}
use Rattle.flash_dev.specs.Rules.{IsEraseLeft}
use Rattle.flash_dev.proofs.Recorded.{recorded_moments, unrecorded_moments}
use Rattle.flash_dev.proofs.recording_flash.RecordingFlashFlash.erase.Goals as goal

pub returns-in_err-begin-clause-at_any_moment : goal.returns-in_err-begin-clause-at_any_moment
returns-in_err-begin-clause-at_any_moment c =
    let same = c.in_err-begin.ensures.fails in
    unrecorded_moments (IsEraseLeft c.args.block) _ _ (ap (λ (s : RecordedState). s.past) same) (ap (λ (s : RecordedState). s.bytes) same) (record { len = refl; before = refl; behind = refl })

pub returns-clause-at_any_moment : goal.returns-clause-at_any_moment
returns-clause-at_any_moment c =
    let begun = c.in_ok-begin.ensures.done in
    let past = ap (λ (s : RecordedState). s.past) c.erase_held.ensures.changed ∙ ap (λ (s : RecordedState). s.past) begun in
    let bytes = ap (λ (s : RecordedState). s.bytes) begun in
    recorded_moments (IsEraseLeft c.args.block) _ _ past (subst (λ (old : List ℕ). IsEraseLeft c.args.block old c.erase_held.new.self.bytes) bytes c.erase_held.ensures.left)
