use Rattle.std.proofs.Common.{All, take}
use Rattle.report_text.specs.Report.{indexed, answer_line}
use Rattle.report_text.specs.Values.{AnswerHasValues}
use Rattle.report_text.proofs.report.write_answers.Given as goal

abbrev pub invariant-loop-index : goal.invariant-loop-index
invariant-loop-index g l = record {
  text : g.P.Put.Puts l.initial.out l.out (indexed answer_line 0 (take l.index l.answered));
  values : All AnswerHasValues (take l.index l.answered);
}
