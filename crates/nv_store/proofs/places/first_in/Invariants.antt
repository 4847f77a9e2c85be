use Rattle.std.proofs.Common.{◌≡◌, ◌≤◌, length}
use Rattle.std.specs.List.{AllByRecursion}
use Rattle.var_types.specs.Key.{key_of}
use Rattle.var_types.specs.Region.{region_lives}
use Rattle.var_region.specs.WritingLaws.{StandsWhole}
use Rattle.nv_store.specs.Places.{first_in}
use Rattle.nv_store.proofs.places.first_in.Given as goal

abbrev pub invariant-loop-found : goal.invariant-loop-found
invariant-loop-found l = record {
  first : first_in l.state (key_of l.guid l.name) l.found-iterator ≡ first_in l.state (key_of l.guid l.name) (region_lives l.region);
  whole : AllByRecursion (StandsWhole l.region) l.found-iterator;
  few : length l.region.bytes ≤ 65536;
}
