use Rattle.std.proofs.Common.{◌≡◌, length, nat_cmp}
use Rattle.std.specs.Cmp.Lexicographic.{slice_cmp}
use Rattle.var_types.specs.Live.{units_in}
use Rattle.var_region.specs.Names.{name_units}
use Rattle.var_region.proofs.name.order_name.Given as goal

abbrev pub invariant-units : goal.invariant-units
invariant-units l = slice_cmp nat_cmp (name_units l.own) (units_in l.left) ≡ slice_cmp nat_cmp (name_units l.name) (units_in l.other)

abbrev pub decreases-units : goal.decreases-units
decreases-units l = length (units_in l.left)
