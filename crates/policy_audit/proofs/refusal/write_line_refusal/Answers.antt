use Rattle.policy_audit.proofs.refusal.write_line_refusal.Goals as goal

pub returns : goal.returns
returns g c = g.met.P.Put.joined _ _ _ _ _ c.write_line_words.ensures c.put.ensures
