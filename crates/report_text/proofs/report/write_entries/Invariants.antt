use Rattle.std.proofs.Common.{flat_map, take}
use Rattle.report_text.specs.Report.{entry_line}
use Rattle.var_trace.specs.StoresAfter.{history_in}
use Rattle.report_text.proofs.report.write_entries.Given as goal

abbrev pub invariant-loop-change : goal.invariant-loop-change
invariant-loop-change g l = g.P.Put.Puts l.initial.out l.out (flat_map entry_line (history_in (take l.change-index l.changes)))
