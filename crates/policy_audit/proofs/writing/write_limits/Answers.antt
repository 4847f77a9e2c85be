use Rattle.policy_audit.proofs.writing.write_limits.Goals as goal

pub returns : goal.returns
returns g c = let j = g.met.P.Put.joined in j _ _ _ _ _ c.write_u32.ensures (j _ _ _ _ _ c.put.ensures (j _ _ _ _ _ c.write_max.ensures (j _ _ _ _ _ c.put-2.ensures c.write_attributes_and_lock.ensures)))
