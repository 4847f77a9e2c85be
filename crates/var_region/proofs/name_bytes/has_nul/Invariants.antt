use Rattle.std.proofs.Common.{◌≡◌, length}
use Rattle.std.specs.List.{list_any}
use Rattle.var_types.specs.Live.{units_in}
use Rattle.var_region.specs.Names.{is_nul}
use Rattle.var_region.proofs.name_bytes.has_nul.Given as goal

abbrev pub invariant-units : goal.invariant-units
invariant-units l = list_any is_nul (units_in l.left) ≡ list_any is_nul (units_in l.name)

abbrev pub decreases-units : goal.decreases-units
decreases-units l = length (units_in l.left)
