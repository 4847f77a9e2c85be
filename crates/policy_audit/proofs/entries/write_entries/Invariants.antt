use Rattle.std.proofs.Common.{take}
use Rattle.policy_audit.specs.Entries.{entries_text}
use Rattle.policy_audit.proofs.entries.write_entries.Given as goal

abbrev pub invariant-loop-policy : goal.invariant-loop-policy
invariant-loop-policy g l = g.P.Put.Puts l.initial.out l.out (entries_text (take l.policy-index l.policies))
