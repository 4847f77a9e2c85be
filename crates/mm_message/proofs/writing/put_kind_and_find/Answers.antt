use Rattle.mm_message.proofs.writing.put_kind_and_find.Goals as goal

pub returns-clause-text : goal.returns-clause-text
returns-clause-text g c = g.met.P.Put.joined _ _ _ _ _ c.put.ensures c.put_find.ensures.text
