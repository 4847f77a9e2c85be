use Rattle.std.proofs.lemmas.Result.{on_ok_weaker}
use Rattle.ftw_mount.proofs.Writes.{prepared, still_clean}
use Rattle.ftw_work.proofs.Told.{content_moments}
use Rattle.ftw_mount.proofs.writing.prepare.Goals as goal

pub fill_spare-requires-clause-clean : goal.fill_spare-requires-clause-clean
fill_spare-requires-clause-clean g c =
    still_clean (g.F.Flash.holds c.args.flash.now) (g.F.Flash.holds c.erase_spare.new.flash) c.requires.clean c.in_ok-erase_spare.ensures.erased

pub returns-clause-prepared : goal.returns-clause-prepared
returns-clause-prepared g c =
    on_ok_weaker c.fill_spare.result
    (prepared c.args.content.now (g.F.Flash.holds c.args.flash.now) (g.F.Flash.holds c.erase_spare.new.flash) (g.F.Flash.holds c.fill_spare.new.flash)
    c.in_ok-erase_spare.ensures.erased)
    c.fill_spare.ensures.filled

pub returns-clause-at_any_moment : goal.returns-clause-at_any_moment
returns-clause-at_any_moment g c = content_moments _ _ _ c.erase_spare.ensures.at_any_moment c.fill_spare.ensures.at_any_moment
