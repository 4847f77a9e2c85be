use Rattle.report_text.proofs.replies.write_key.Goals as goal

pub returns-clause-text : goal.returns-clause-text
returns-clause-text g c =
    let joined = g.met.P.Put.joined in
    rw (← c.as_slice.ensures.items) (joined _ _ _ _ _ c.write.ensures.text (joined _ _ _ _ _ c.put.ensures c.write_name.ensures))
