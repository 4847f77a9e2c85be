use Rattle.policy_audit.proofs.entries.write_call_line.Goals as goal

pub returns : goal.returns
returns g c = let j = g.met.P.Put.joined in j _ _ _ _ _ c.put.ensures (j _ _ _ _ _ c.write_call.ensures c.put-2.ensures)
