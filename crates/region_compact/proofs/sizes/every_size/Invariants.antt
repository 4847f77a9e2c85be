use Rattle.std.proofs.Common.{◌≡◌, ◌≤◌, ◌+◌}
use Rattle.std.specs.List.{AllByRecursion}
use Rattle.var_types.specs.Region.{region_lives}
use Rattle.region_compact.specs.Compacted.{rooms}
use Rattle.region_compact.proofs.StoredSizes.{IsInside}
use Rattle.region_compact.proofs.sizes.every_size.Given as goal

abbrev pub invariant-loop-found : goal.invariant-loop-found
invariant-loop-found l = record {
  sum : l.size + rooms l.found-iterator ≡ rooms (region_lives l.region);
  few : rooms (region_lives l.region) ≤ 131078;
  inside : AllByRecursion (IsInside l.region.bytes) l.found-iterator;
}
