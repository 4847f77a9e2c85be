use Rattle.std.proofs.Common.{List, ℕ, refl, subst}
use Rattle.var_types.specs.Texts.{unit_text}
use Rattle.var_types.proofs.Pieces.{flat_map-take_more}
use Rattle.var_types.proofs.text.write_units.Goals as goal

pub loop-unit-preserved : goal.loop-unit-preserved
loop-unit-preserved g c =
    subst (λ (t : List ℕ). g.P.Put.Puts c.args.out.now c.write_unit.new.out t)
    (flat_map-take_more unit_text c.args.units.now c.loop-unit.unit-index 0 _ c.loop-unit-test.true refl)
    (g.met.P.Put.joined _ _ _ _ _ c.loop-unit.invariant c.write_unit.ensures)
