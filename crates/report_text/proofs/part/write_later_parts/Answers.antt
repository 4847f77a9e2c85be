use Rattle.std.proofs.Common.{List, ℕ, ◌∷◌, subst}
use Rattle.report_text.specs.declared.part.Part.{Part}
use Rattle.report_text.specs.Line.{part_text}
use Rattle.var_types.proofs.Pieces.{flat_map-take_more}
use Rattle.report_text.proofs.part.write_later_parts.Goals as goal

pub loop-part-preserved : goal.loop-part-preserved
loop-part-preserved g c =
    let text : Part → List ℕ = λ p. 32 ∷ part_text p in
    let joined = g.met.P.Put.joined in
    subst (λ (t : List ℕ). g.P.Put.Puts c.args.out.now c.write_part.new.out t)
    (flat_map-take_more text c.args.parts.now c.loop-part.part-index c.part-item.result c.part-item.result c.loop-part-test.true c.part-item.is)
    (joined _ _ _ _ _ c.loop-part.invariant (joined _ _ _ _ _ c.put.ensures c.write_part.ensures))
