use Rattle.ftw_mount.proofs.Writes.{now_blank, renewed}
use Rattle.ftw_work.proofs.Told.{content_moments}
use Rattle.ftw_mount.proofs.writing.renew.Goals as goal

pub make-requires-clause-blank : goal.make-requires-clause-blank
make-requires-clause-blank g c =
    now_blank (g.F.Flash.holds c.args.flash.now) (g.F.Flash.holds c.erase_spare.new.flash) c.requires.clean c.in_ok-erase_spare.ensures.erased

pub returns-clause-freed : goal.returns-clause-freed
returns-clause-freed g c =
    renewed (g.F.Flash.holds c.args.flash.now) (g.F.Flash.holds c.erase_spare.new.flash) (g.F.Flash.holds c.make.new.flash)
    c.in_ok-erase_spare.ensures.erased c.in_ok-make.ensures.made

pub returns-clause-at_any_moment : goal.returns-clause-at_any_moment
returns-clause-at_any_moment g c = content_moments _ _ _ c.erase_spare.ensures.at_any_moment c.make.ensures.at_any_moment

pub returns-in_err-make-clause-at_any_moment : goal.returns-in_err-make-clause-at_any_moment
returns-in_err-make-clause-at_any_moment g c = content_moments _ _ _ c.erase_spare.ensures.at_any_moment c.make.ensures.at_any_moment
