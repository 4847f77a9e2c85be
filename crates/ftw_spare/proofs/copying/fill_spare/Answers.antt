use Rattle.std.proofs.Common.{arith}
use Rattle.std.proofs.lemmas.Result.{on_ok_weaker}
use Rattle.ftw_work.proofs.Steps.{image_sized, program_moments}
use Rattle.ftw_spare.proofs.Filling.{filled_told, spare_moments}
use Rattle.ftw_spare.proofs.copying.fill_spare.Goals as goal

pub returns-clause-filled : goal.returns-clause-filled
returns-clause-filled g c =
    on_ok_weaker c.program.result
    (filled_told c.args.content.now _ _ (image_sized _ _ c.requires.size (g.met.F.Flash.sized c.args.flash.now)) c.requires.content
    (λ k. omega (arith, (c.type_inv.content k).fits))
    (program_moments 65536 131072 65536 _ _ _ (omega arith) (omega (arith, c.requires.content)) c.program.ensures.at_any_moment).now)
    c.program.ensures.programmed

pub returns-clause-at_any_moment : goal.returns-clause-at_any_moment
returns-clause-at_any_moment g c =
    spare_moments _ _ c.requires.clean
    (program_moments 65536 131072 65536 _ _ _ (omega arith) (omega (arith, c.requires.content)) c.program.ensures.at_any_moment)
