use Rattle.script_text.specs.Texts.{call_text}
use Rattle.image_make.proofs.script.write_set.Goals as goal

pub returns : goal.returns
unfolding call_text
returns g c =
    let joined = g.met.P.Put.joined in
    let written = joined _ _ _ _ _ c.write_attributes.ensures (joined _ _ _ _ _ c.put-4.ensures c.write_data.ensures) in
    let name = joined _ _ _ _ _ c.write_name.ensures (joined _ _ _ _ _ c.put-3.ensures written) in
    let parts = joined _ _ _ _ _ c.write.ensures.text (joined _ _ _ _ _ c.put-2.ensures name) in
    rw (← c.global_variable.ensures, ← c.name_at.ensures) (joined _ _ _ _ _ c.put.ensures parts)
