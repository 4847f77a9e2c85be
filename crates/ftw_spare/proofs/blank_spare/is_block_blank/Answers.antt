use Rattle.std.proofs.Common.{refl}
use Rattle.ftw_spare.proofs.BlankBlocks.{block_read}
use Rattle.ftw_spare.proofs.blank_spare.is_block_blank.Goals as goal

pub returns-clause-blank : goal.returns-clause-blank
returns-clause-blank g c =
    block_read c.args.block _ _ c.read.new.into c.is_blank.result (g.F.Flash.holds c.args.flash.now) refl c.requires.buffer c.in_ok-read.ensures.bytes
    c.is_blank.ensures
