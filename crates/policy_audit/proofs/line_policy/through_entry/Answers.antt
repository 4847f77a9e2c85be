use Rattle.std.proofs.Common.{ℕ, List, sym, subst}
use Rattle.var_types.specs.Values.{AreBytes}
use Rattle.policy_audit.proofs.Spelled.{entry_spelled}
use Rattle.policy_audit.proofs.line_policy.through_entry.Goals as goal

pub returns-in-Ok-clause-spelled : goal.returns-in-Ok-clause-spelled
returns-in-Ok-clause-spelled c =
    entry_spelled c.as_slice.result.now c.in-Ok.policy (subst AreBytes (sym c.as_slice.ensures.items) c.as_slice.ensures.values) c.in-Ok.ensures.ok
