use Rattle.std.proofs.Common.{◌≡◌, ◌≤◌, length}
use Rattle.script_text.specs.FirstUnit.{units_after}
use Rattle.script_text.specs.Names.{units_of}
use Rattle.script_text.proofs.names.units_of.Given as goal

abbrev pub invariant-units : goal.invariant-units
invariant-units l = record {
  all_units : units_after l.units.items (units_of l.rest) ≡ units_of l.word;
  limit : length l.units.items ≤ 1024;
}

abbrev pub decreases-units : goal.decreases-units
decreases-units l = length l.rest
