use Rattle.std.proofs.Common.{arith}
use Rattle.std.proofs.lemmas.Result.{on_ok_weaker}
use Rattle.ftw_work.proofs.Steps.{image_sized}
use Rattle.ftw_spare.proofs.Filling.{erased_told, spare_moments}
use Rattle.ftw_spare.proofs.copying.erase_spare.Goals as goal

pub returns-clause-erased : goal.returns-clause-erased
returns-clause-erased g c =
    on_ok_weaker c.erase_blocks.result
    (λ erased. erased_told _ _ (image_sized _ _ c.requires.size (g.met.F.Flash.sized c.args.flash.now)) erased c.erase_blocks.ensures.at_any_moment.now)
    c.erase_blocks.ensures.erased

pub returns-clause-at_any_moment : goal.returns-clause-at_any_moment
returns-clause-at_any_moment g c = spare_moments _ _ c.requires.clean c.erase_blocks.ensures.at_any_moment
