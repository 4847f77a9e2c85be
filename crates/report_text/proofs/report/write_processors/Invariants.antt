use Rattle.std.proofs.Common.{map, take}
use Rattle.report_text.specs.Report.{indexed, processor_lines}
use Rattle.report_text.specs.Values.{HaveValues}
use Rattle.report_text.proofs.report.write_processors.Given as goal

abbrev pub invariant-loop-processor : goal.invariant-loop-processor
invariant-loop-processor g l = record {
  text : g.P.Put.Puts l.initial.out l.out (indexed processor_lines 0 (map (λ answers. answers.answered) (take l.processor l.processors)));
  values : HaveValues (map (λ answers. answers.answered) (take l.processor l.processors));
}
