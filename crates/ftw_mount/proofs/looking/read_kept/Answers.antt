use Rattle.std.proofs.Common.{◌∙◌, refl}
use Rattle.flash_dev.specs.Rules.{IsKept}
use Rattle.ftw_mount.proofs.Readings.{content_read}
use Rattle.ftw_work.proofs.Told.{reads_first}
use Rattle.ftw_mount.proofs.looking.read_kept.Goals as goal

pub returns-clause-content : goal.returns-clause-content
returns-clause-content g c =
    content_read (g.F.Flash.holds c.args.flash.now) (g.F.Flash.holds c.look_over.new.flash) c.in_ok-kept.kept _ _ c.read.new.into
    (c.look_over.auto.buffer ∙ c.requires.into) c.look_over.ensures.kept c.in_ok-kept.ensures.describes c.content_offset.ensures.part
    c.in_ok-read.ensures.bytes

pub returns-clause-at_any_moment : goal.returns-clause-at_any_moment
returns-clause-at_any_moment g c = reads_first IsKept _ _ _ (λ image. refl) c.look_over.ensures.at_any_moment c.read.ensures.at_any_moment

pub returns-in_err-read-clause-at_any_moment : goal.returns-in_err-read-clause-at_any_moment
returns-in_err-read-clause-at_any_moment g c =
    reads_first IsKept _ _ _ (λ image. refl) c.look_over.ensures.at_any_moment c.read.ensures.at_any_moment
