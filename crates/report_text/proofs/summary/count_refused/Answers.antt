use Rattle.std.proofs.Common.{sym, ◌∙◌, arith}
use Rattle.report_text.specs.Summary.{is_refused}
use Rattle.report_text.proofs.Counts.{counted_no, counted_yes}
use Rattle.report_text.proofs.summary.count_refused.Goals as goal
use Rattle.report_text.proofs.summary.count_refused.Goals.{then-is_refused, else-is_refused}

pub loop-a-preserved : goal.loop-a-preserved
loop-a-preserved c =
    elim c.if-is_refused.branch [
      | then-is_refused w ↦ record {
        counted =
            w.count-is ∙ counted_yes is_refused c.args.answered.now c.loop-a.a-index c.loop-a.count c.a-item.result c.loop-a-test.true c.a-item.is
            (sym c.is_refused.ensures ∙ w.if-is_refused.true) c.loop-a.invariant.counted;
        within = omega arith;
      }
      | else-is_refused w ↦ record {
        counted =
            w.count-is ∙ counted_no is_refused c.args.answered.now c.loop-a.a-index c.loop-a.count c.a-item.result c.loop-a-test.true c.a-item.is
            (sym c.is_refused.ensures ∙ w.if-is_refused.false) c.loop-a.invariant.counted;
        within = omega arith;
      }
    ]
