use Rattle.std.proofs.Common.{arith}
use Rattle.std.proofs.lemmas.Result.{on_ok_weaker}
use Rattle.ftw_work.proofs.Steps.{outside_moments, program_moments}
use Rattle.ftw_spare.proofs.Filling.{copied_told, volume_moments}
use Rattle.ftw_spare.proofs.copying.copy_to_dest.Goals as goal

pub returns-clause-copied : goal.returns-clause-copied
returns-clause-copied g c =
    on_ok_weaker c.program.result
    (copied_told c.args.content.now _ _ _ c.requires.content (λ k. omega (arith, (c.type_inv.content k).fits))
    (outside_moments 0 57344 _ _ _ c.erase_blocks.ensures.at_any_moment
    (program_moments 0 57344 0 _ _ _ (omega arith) (omega (arith, c.requires.content)) c.program.ensures.at_any_moment)).now
    c.in_ok-erase_blocks.ensures.erased)
    c.program.ensures.programmed

pub returns-clause-at_any_moment : goal.returns-clause-at_any_moment
returns-clause-at_any_moment g c =
    volume_moments _ _ c.requires.pending c.requires.used
    (outside_moments 0 57344 _ _ _ c.erase_blocks.ensures.at_any_moment
    (program_moments 0 57344 0 _ _ _ (omega arith) (omega (arith, c.requires.content)) c.program.ensures.at_any_moment))

pub returns-in_err-erase_blocks-clause-at_any_moment : goal.returns-in_err-erase_blocks-clause-at_any_moment
returns-in_err-erase_blocks-clause-at_any_moment g c =
    volume_moments _ _ c.requires.pending c.requires.used c.erase_blocks.ensures.at_any_moment
