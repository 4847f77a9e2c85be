use Rattle.policy_audit.specs.Written.{policy_text}
use Rattle.policy_audit.proofs.writing.write_policy.Goals as goal

pub returns : goal.returns
unfolding policy_text
returns g c = let j = g.met.P.Put.joined in j _ _ _ _ _ c.write.ensures.text (j _ _ _ _ _ c.put.ensures (j _ _ _ _ _ c.write_own.ensures (j _ _ _ _ _ c.put-2.ensures c.write_limits.ensures)))
