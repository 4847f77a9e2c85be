use Rattle.policy_audit.proofs.refusal.write_bytes_words.Goals as goal

pub returns : goal.returns
returns g c = let j = g.met.P.Put.joined in j _ _ _ _ _ c.put.ensures c.write_number.ensures
