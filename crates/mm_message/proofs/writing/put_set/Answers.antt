use Rattle.mm_message.proofs.writing.put_set.Goals as goal

pub returns-clause-text : goal.returns-clause-text
returns-clause-text g c =
    let joined = g.met.P.Put.joined in
    let name = joined _ _ _ _ _ c.put_name.ensures.text c.put_bytes.ensures.text in
    let count = joined _ _ _ _ _ c.put.ensures (joined _ _ _ _ _ c.put_u16.ensures name) in
    rw (← c.verdict_byte.ensures, ← c.units_count.ensures) (joined _ _ _ _ _ c.put_guid.ensures.text (joined _ _ _ _ _ c.put_u32.ensures count))
