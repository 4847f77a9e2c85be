use Rattle.std.proofs.Common.{arith, lit≤, refl}
use Rattle.std.proofs.lemmas.Result.{on_ok_weaker}
use Rattle.ftw_work.proofs.Makes.{made_told, work_moments}
use Rattle.ftw_work.proofs.Steps.{erase_moments, image_sized, outside_moments, program_moments}
use Rattle.ftw_work.proofs.gates.make.Goals as goal

pub returns-clause-made : goal.returns-clause-made
returns-clause-made g c =
    on_ok_weaker c.program-2.result
    (made_told _ (g.F.Flash.holds c.args.flash.now) (g.F.Flash.holds c.erase.new.self) (g.F.Flash.holds c.program.new.self)
    (g.F.Flash.holds c.program-2.new.self) refl (image_sized _ _ c.requires.size (g.met.F.Flash.sized c.args.flash.now)) c.in_ok-erase.ensures.erased
    c.in_ok-program.ensures.programmed)
    c.program-2.ensures.programmed

pub returns-clause-at_any_moment : goal.returns-clause-at_any_moment
returns-clause-at_any_moment g c =
    work_moments _ _ c.requires.blank
    (outside_moments 61440 65536 _ _ _
    (outside_moments 61440 65536 _ _ _ (erase_moments 61440 65536 15 _ _ (omega arith) (omega arith) c.erase.ensures.at_any_moment)
    (program_moments 61440 65536 61440 _ _ _ (omega arith) (lit≤ tt) c.program.ensures.at_any_moment))
    (program_moments 61440 65536 61455 _ _ _ (omega arith) (lit≤ tt) c.program-2.ensures.at_any_moment))

pub returns-in_err-erase-clause-at_any_moment : goal.returns-in_err-erase-clause-at_any_moment
returns-in_err-erase-clause-at_any_moment g c =
    work_moments _ _ c.requires.blank (erase_moments 61440 65536 15 _ _ (omega arith) (omega arith) c.erase.ensures.at_any_moment)

pub returns-in_err-program-clause-at_any_moment : goal.returns-in_err-program-clause-at_any_moment
returns-in_err-program-clause-at_any_moment g c =
    work_moments _ _ c.requires.blank
    (outside_moments 61440 65536 _ _ _ (erase_moments 61440 65536 15 _ _ (omega arith) (omega arith) c.erase.ensures.at_any_moment)
    (program_moments 61440 65536 61440 _ _ _ (omega arith) (lit≤ tt) c.program.ensures.at_any_moment))
