use Rattle.policy_audit.proofs.refusal.write_bytes_refusal.Goals as goal

pub returns : goal.returns
returns g c = g.met.P.Put.joined _ _ _ _ _ c.write_bytes_words.ensures c.put.ensures
