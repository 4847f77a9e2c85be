use Rattle.mm_message.specs.Spellings.{spelling}
use Rattle.mm_message.proofs.writing.write_request.Goals as goal

pub returns-clause-text : goal.returns-clause-text
unfolding spelling
returns-clause-text g c =
    let joined = g.met.P.Put.joined in
    rw (← c.message_size-size.ensures) (joined _ _ _ _ _ c.put_u32.ensures (joined _ _ _ _ _ c.put.ensures c.put_body.ensures.text))
