use Rattle.std.proofs.Common.{List, ℕ, subst}
use Rattle.report_text.proofs.Sessions.{flat-more}
use Rattle.report_text.specs.Report.{entry_line}
use Rattle.report_text.proofs.report.write_entries.Goals as goal

pub loop-change-preserved : goal.loop-change-preserved
loop-change-preserved g c =
    subst (λ (t : List ℕ). g.P.Put.Puts c.args.out.now c.write_entry.new.out t)
    (flat-more entry_line (λ change. change.entry) c.args.changes.now c.loop-change.change-index c.change-item.result c.loop-change-test.true c.change-item.is)
    (g.met.P.Put.joined _ _ _ _ _ c.loop-change.invariant c.write_entry.ensures)
