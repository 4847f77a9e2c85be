use Rattle.std.proofs.Common.{flat_map, map, take}
use Rattle.policy_audit.specs.Audit.{break_line, seen_break}
use Rattle.policy_audit.proofs.audit.write_lines.Given as goal

abbrev pub invariant-loop-violation : goal.invariant-loop-violation
invariant-loop-violation g l = g.P.Put.Puts l.initial.out l.out (flat_map break_line (map seen_break (take l.violation-index l.violations)))
