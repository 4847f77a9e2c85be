use Rattle.policy_audit.proofs.writing.write_attributes_and_lock.Goals as goal

pub returns : goal.returns
returns g c = let j = g.met.P.Put.joined in j _ _ _ _ _ c.write_attributes.ensures (j _ _ _ _ _ c.put.ensures (j _ _ _ _ _ c.write_attributes-2.ensures (j _ _ _ _ _ c.put-2.ensures c.write_lock.ensures)))
