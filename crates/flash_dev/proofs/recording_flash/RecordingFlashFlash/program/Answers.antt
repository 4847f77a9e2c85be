use Rattle.std.proofs.Common.{ℕ, List, ap, subst, ◌∙◌}
use Rattle.flash_dev.specs.RecordingFlash.{RecordedState}
use Rattle.flash_dev.specs.Rules.{IsProgramLeft}
use Rattle.flash_dev.proofs.Left.{none_leaves}
use Rattle.flash_dev.proofs.Recorded.{recorded_moments, unrecorded_moments}
use Rattle.flash_dev.proofs.recording_flash.RecordingFlashFlash.program.Goals as goal

pub returns-in_err-begin-clause-at_any_moment : goal.returns-in_err-begin-clause-at_any_moment
returns-in_err-begin-clause-at_any_moment c =
    let same = c.in_err-begin.ensures.fails in
    unrecorded_moments (IsProgramLeft c.args.at c.args.bytes.now) _ _ (ap (λ (s : RecordedState). s.past) same) (ap (λ (s : RecordedState). s.bytes) same) (none_leaves c.args.at c.args.bytes.now c.args.self.now.bytes)

pub returns-clause-at_any_moment : goal.returns-clause-at_any_moment
returns-clause-at_any_moment c =
    let begun = c.in_ok-begin.ensures.done in
    let past = ap (λ (s : RecordedState). s.past) c.program_held.ensures.changed ∙ ap (λ (s : RecordedState). s.past) begun in
    let bytes = ap (λ (s : RecordedState). s.bytes) begun in
    recorded_moments (IsProgramLeft c.args.at c.args.bytes.now) _ _ past (subst (λ (old : List ℕ). IsProgramLeft c.args.at c.args.bytes.now old c.program_held.new.self.bytes) bytes c.program_held.ensures.left)
