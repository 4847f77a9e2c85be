use Rattle.image_make.proofs.script.write_line.Goals as goal

pub returns : goal.returns
returns g c =
    let joined = g.met.P.Put.joined in
    joined _ _ _ _ _ c.put.ensures (joined _ _ _ _ _ c.write_call_at.ensures c.put-2.ensures)
