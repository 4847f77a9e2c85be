use Rattle.std.proofs.Common.{◌≡◌, ◌≤◌, count_by, take}
use Rattle.var_types.specs.Step.{is_change}
use Rattle.report_text.specs.Summary.{replies_of}
use Rattle.report_text.proofs.summary.count_changes.Given as goal

abbrev pub invariant-loop-a : goal.invariant-loop-a
invariant-loop-a l = record {
  counted : l.count ≡ count_by is_change (take l.a-index (replies_of l.answered));
  within : l.count ≤ l.a-index;
}
