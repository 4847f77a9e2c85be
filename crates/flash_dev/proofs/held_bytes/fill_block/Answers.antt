use Rattle.std.proofs.Common.{arith, subst, sym}
use Rattle.flash_dev.specs.Rules.{IsEraseLeft}
use Rattle.flash_dev.proofs.Filled.{block_is_filled, block_left}
use Rattle.flash_dev.proofs.held_bytes.fill_block.Goals as goal

pub returns-clause-changed : goal.returns-clause-changed
returns-clause-changed c =
    block_is_filled _ c.args.block c.args.byte c.args.held.now c.fill.new.self (omega arith) (omega arith) (c.fill.ensures.after (λ y e. e))

pub returns-clause-left : goal.returns-clause-left
returns-clause-left c =
    subst (IsEraseLeft c.args.block c.args.held.now) (sym (returns-clause-changed c)) (block_left c.args.block c.args.byte c.args.held.now c.requires)
