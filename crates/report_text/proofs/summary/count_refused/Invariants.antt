use Rattle.std.proofs.Common.{◌≡◌, ◌≤◌, count_by, take}
use Rattle.report_text.specs.Summary.{is_refused, replies_of}
use Rattle.report_text.proofs.summary.count_refused.Given as goal

abbrev pub invariant-loop-a : goal.invariant-loop-a
invariant-loop-a l = record {
  counted : l.count ≡ count_by is_refused (take l.a-index (replies_of l.answered));
  within : l.count ≤ l.a-index;
}
