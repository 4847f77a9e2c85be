use Rattle.std.proofs.Common.{◌≡◌, [], map}
use Rattle.std.specs.List.{AllByRecursion}
use Rattle.report_text.proofs.Held.{held_from}
use Rattle.report_text.specs.Held.{held_entry}
use Rattle.var_types.proofs.Bounds.{HasShortName}
use Rattle.var_types.specs.Region.{region_lives}
use Rattle.report_text.proofs.variables.variables_of.Given as goal

abbrev pub invariant-loop-found : goal.invariant-loop-found
invariant-loop-found l = record {
  held : held_from (map held_entry l.held.entries) l.found-iterator ≡ held_from [] (region_lives l.region);
  short : AllByRecursion HasShortName l.found-iterator;
}
