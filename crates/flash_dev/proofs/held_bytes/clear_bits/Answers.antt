use Rattle.std.proofs.Common.{◌∙◌, ap, bit_and, get_or, set, subst, sym}
use Rattle.std.proofs.lemmas.List.{take_all}
use Rattle.flash_dev.specs.Rules.{AreBytesLeft, cleared}
use Rattle.flash_dev.proofs.Cleared.{cleared_more}
use Rattle.flash_dev.proofs.Left.{cleared_left}
use Rattle.flash_dev.proofs.held_bytes.clear_bits.Goals as goal

pub loop-offset-preserved : goal.loop-offset-preserved
loop-offset-preserved c =
    let i = c.loop-offset.offset in
    let news = c.args.bytes.now in
    ap (λ cells. set cells i (bit_and (get_or cells i 0) (get_or news i 0))) c.loop-offset.invariant
    ∙ sym (cleared_more c.args.held.now news i c.loop-offset-test.true c.requires)

pub returns-clause-left : goal.returns-clause-left
returns-clause-left c =
    let olds = c.args.held.now in
    let news = c.args.bytes.now in
    let whole = ap (cleared olds) (take_all c.loop-offset.offset news c.loop-offset-test.false) in
    subst (AreBytesLeft olds news) (sym (c.loop-offset.invariant ∙ whole)) (cleared_left olds news)
