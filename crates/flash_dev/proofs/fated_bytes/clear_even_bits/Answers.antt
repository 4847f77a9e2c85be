use Rattle.std.proofs.Common.{◌∙◌, ap, subst, sym, arith, bit_and, get_or, set, ◌≡◌, ◌%◌}
use Rattle.flash_dev.proofs.Cleared.{evens_more, odds_more}
use Rattle.std.proofs.lemmas.List.{take_all}
use Rattle.flash_dev.specs.MemFlash.{even_bytes}
use Rattle.flash_dev.specs.Rules.{AreBytesLeft, cleared}
use Rattle.flash_dev.proofs.Left.{evens_left}
use Rattle.flash_dev.proofs.fated_bytes.clear_even_bits.Goals as goal
use Rattle.flash_dev.proofs.fated_bytes.clear_even_bits.Goals.{then-offset-eq0, else-offset-eq0}

pub loop-offset-preserved : goal.loop-offset-preserved
loop-offset-preserved c =
    let i = c.loop-offset.offset in
    let news = c.args.bytes.now in
    record {
      evens = elim c.if-offset-eq0.branch [
        | then-offset-eq0 w ↦
            w.held-is
            ∙ ap (λ cells. set cells i (bit_and (get_or cells i 0) (get_or news i 0))) c.loop-offset.invariant.evens
            ∙ sym (evens_more c.args.held.now news i c.loop-offset-test.true c.requires w.if-offset-eq0.true)
        | else-offset-eq0 w ↦
            let odd : i % 2 ≡ 1 = omega (arith, w.if-offset-eq0.false) in
            w.held-is
            ∙ c.loop-offset.invariant.evens
            ∙ sym (odds_more c.args.held.now news i c.loop-offset-test.true c.requires odd (c.loop-offset.invariant.bytes i))
      ];
      bytes = c.loop-offset.invariant.bytes;
    }

pub returns-clause-left : goal.returns-clause-left
returns-clause-left c =
    let olds = c.args.held.now in
    let news = c.args.bytes.now in
    let whole = ap (λ bytes. cleared olds (even_bytes bytes)) (take_all c.loop-offset.offset news c.loop-offset-test.false) in
    subst (AreBytesLeft olds news) (sym (c.loop-offset.invariant.evens ∙ whole)) (evens_left olds news c.loop-offset.invariant.bytes)
