use Rattle.mm_message.proofs.writing.put_find.Goals as goal

pub returns-clause-text : goal.returns-clause-text
returns-clause-text g c =
    let joined = g.met.P.Put.joined in
    joined _ _ _ _ _ c.put_guid.ensures.text (joined _ _ _ _ _ c.put_u32.ensures c.put_name.ensures.text)
