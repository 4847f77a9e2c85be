use Rattle.mm_message.proofs.writing.put_place.Goals as goal

pub returns : goal.returns
returns g c = g.met.P.Put.joined _ _ _ _ _ c.put.ensures c.put_u32.ensures
