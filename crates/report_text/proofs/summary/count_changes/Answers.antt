use Rattle.std.proofs.Common.{sym, ◌∙◌, arith}
use Rattle.var_types.specs.Step.{is_change}
use Rattle.report_text.proofs.Counts.{counted_no, counted_yes}
use Rattle.report_text.proofs.summary.count_changes.Goals as goal
use Rattle.report_text.proofs.summary.count_changes.Goals.{then-is_change, else-is_change}

pub loop-a-preserved : goal.loop-a-preserved
loop-a-preserved c =
    elim c.if-is_change.branch [
      | then-is_change w ↦ record {
        counted =
            w.count-is ∙ counted_yes is_change c.args.answered.now c.loop-a.a-index c.loop-a.count c.a-item.result c.loop-a-test.true c.a-item.is
            (sym c.is_change.ensures ∙ w.if-is_change.true) c.loop-a.invariant.counted;
        within = omega arith;
      }
      | else-is_change w ↦ record {
        counted =
            w.count-is ∙ counted_no is_change c.args.answered.now c.loop-a.a-index c.loop-a.count c.a-item.result c.loop-a-test.true c.a-item.is
            (sym c.is_change.ensures ∙ w.if-is_change.false) c.loop-a.invariant.counted;
        within = omega arith;
      }
    ]
