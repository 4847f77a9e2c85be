use Rattle.std.proofs.Common.{◌∙◌, refl}
use Rattle.flash_dev.specs.Rules.{IsKept}
use Rattle.ftw_mount.proofs.Readings.{described}
use Rattle.ftw_work.proofs.Told.{reads_first}
use Rattle.ftw_mount.proofs.looking.look.Goals as goal

pub returns-clause-describes : goal.returns-clause-describes
returns-clause-describes g c =
    described (g.F.Flash.holds c.args.flash.now) (g.F.Flash.holds c.blank.new.flash) _ c.state.result _ c.read.new.into (c.blank.auto.buffer ∙ c.requires.buffer) c.blank.ensures.kept
    c.in_ok-is_blank.ensures.blank c.in_ok-read.ensures.bytes c.state.ensures.state

pub returns-clause-at_any_moment : goal.returns-clause-at_any_moment
returns-clause-at_any_moment g c = reads_first IsKept _ _ _ (λ image. refl) c.blank.ensures.at_any_moment c.read.ensures.at_any_moment

pub returns-in_err-read-clause-at_any_moment : goal.returns-in_err-read-clause-at_any_moment
returns-in_err-read-clause-at_any_moment g c = reads_first IsKept _ _ _ (λ image. refl) c.blank.ensures.at_any_moment c.read.ensures.at_any_moment
