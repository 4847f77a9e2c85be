use Rattle.std.proofs.Common.{take}
use Rattle.policy_audit.specs.Written.{policies_text}
use Rattle.policy_audit.proofs.writing.write_policies.Given as goal

abbrev pub invariant-loop-policy : goal.invariant-loop-policy
invariant-loop-policy g l = g.P.Put.Puts l.initial.out l.out (policies_text (take l.policy-index l.policies))
