use Rattle.script_text.proofs.call_text.write_find.Goals as goal

pub returns : goal.returns
returns g c =
    let joined = g.met.P.Put.joined in
    let name = joined _ _ _ _ _ c.write_name.ensures (joined _ _ _ _ _ c.put-4.ensures c.write_number.ensures) in
    let parts = joined _ _ _ _ _ c.write.ensures.text (joined _ _ _ _ _ c.put-3.ensures name) in
    rw (← c.as_slice.ensures.items, ← c.from.ensures) (joined _ _ _ _ _ c.put.ensures (joined _ _ _ _ _ c.put-2.ensures parts))
