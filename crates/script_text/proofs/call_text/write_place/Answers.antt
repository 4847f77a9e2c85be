use Rattle.script_text.proofs.call_text.write_place.Goals as goal

pub returns : goal.returns
returns g c =
    let joined = g.met.P.Put.joined in
    rw (← c.from.ensures) (joined _ _ _ _ _ c.put.ensures (joined _ _ _ _ _ c.put-2.ensures c.write_number.ensures))
