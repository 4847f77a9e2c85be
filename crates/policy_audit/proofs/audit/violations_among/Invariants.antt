use Rattle.std.proofs.Common.{◌≡◌, ◌++◌, map}
use Rattle.report_text.specs.Held.{entry_of}
use Rattle.policy_audit.specs.Audit.{audit_of, seen_break}
use Rattle.policy_audit.proofs.audit.violations_among.Given as goal

abbrev pub invariant-loop-key : goal.invariant-loop-key
invariant-loop-key l =
    map seen_break l.violations.items ++ audit_of l.policies (map entry_of l.key-iterator) ≡ audit_of l.policies (map entry_of l.held.entries)
