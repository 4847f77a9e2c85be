use Rattle.std.proofs.Common.{List, ℕ, subst}
use Rattle.var_types.specs.Texts.{bytes_text}
use Rattle.image_make.proofs.Data.{bytes_at-front}
use Rattle.image_make.proofs.script.write_data.Goals as goal

pub returns : goal.returns
returns g c =
    let front = bytes_at-front c.args.number c.args.index c.count_at.result c.byte_at-bytes.result c.count_at.ensures.count c.byte_at-bytes.ensures in
    subst (λ (b : List ℕ). g.P.Put.Puts c.args.out.now c.write_bytes.new.out (bytes_text b)) front c.write_bytes.ensures
