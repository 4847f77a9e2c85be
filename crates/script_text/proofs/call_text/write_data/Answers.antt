use Rattle.std.proofs.Common.{List, ℕ, ◌∷◌, subst}
use Rattle.var_types.specs.Texts.{bytes_text, spaced}
use Rattle.var_types.proofs.Pieces.{spaced-cons}
use Rattle.script_text.specs.Texts.{verdict_words}
use Rattle.script_text.proofs.call_text.write_data.Goals as goal

pub returns : goal.returns
returns g c =
    let puts = g.P.Put.Puts c.args.out.now c.write_verdict.new.out in
    let words = g.met.P.Put.joined _ _ _ _ _ c.write_bytes.ensures c.write_verdict.ensures in
    subst (λ (b : List ℕ). puts (spaced (bytes_text b ∷ verdict_words c.args.verdict))) c.as_slice.ensures.items
    (subst (λ (t : List ℕ). puts t) (spaced-cons (bytes_text c.as_slice.result.now) (verdict_words c.args.verdict)) words)
