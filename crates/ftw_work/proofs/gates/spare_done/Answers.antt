use Rattle.std.proofs.Common.{arith}
use Rattle.std.proofs.lemmas.Result.{on_ok_weaker}
use Rattle.ftw_work.proofs.Steps.{image_sized}
use Rattle.ftw_work.proofs.OpenedGates.{spare_gate_moments, spare_gate_told}
use Rattle.ftw_work.proofs.gates.spare_done.Goals as goal

pub returns-clause-opened : goal.returns-clause-opened
returns-clause-opened g c =
    on_ok_weaker c.program.result
    (spare_gate_told c.args.slot _ _ _ c.requires.slot (omega arith) (image_sized _ _ c.requires.size (g.met.F.Flash.sized c.args.flash.now))
    c.requires.clean)
    c.program.ensures.programmed

pub returns-clause-at_any_moment : goal.returns-clause-at_any_moment
returns-clause-at_any_moment g c =
    spare_gate_moments c.args.slot _ _ _ c.requires.slot (omega arith) (image_sized _ _ c.requires.size (g.met.F.Flash.sized c.args.flash.now))
    c.requires.clean c.requires.used c.program.ensures.at_any_moment
