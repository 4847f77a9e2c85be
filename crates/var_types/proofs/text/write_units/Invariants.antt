use Rattle.std.proofs.Common.{take}
use Rattle.std.specs.List.{flat_map}
use Rattle.var_types.specs.Texts.{unit_text}
use Rattle.var_types.proofs.text.write_units.Given as goal

abbrev pub invariant-loop-unit : goal.invariant-loop-unit
invariant-loop-unit g l = g.P.Put.Puts l.initial.out l.out (flat_map unit_text (take l.unit-index l.units))
