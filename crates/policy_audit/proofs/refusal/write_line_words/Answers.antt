use Rattle.policy_audit.proofs.refusal.write_line_words.Goals as goal

pub returns : goal.returns
returns g c = let j = g.met.P.Put.joined in j _ _ _ _ _ c.put.ensures (j _ _ _ _ _ c.write_number.ensures (j _ _ _ _ _ c.put-2.ensures c.write_reason.ensures))
