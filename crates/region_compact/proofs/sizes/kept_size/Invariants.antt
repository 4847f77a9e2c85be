use Rattle.std.proofs.Common.{◌≡◌, ◌≤◌, ◌+◌}
use Rattle.std.specs.List.{AllByRecursion}
use Rattle.var_types.specs.Region.{region_lives}
use Rattle.region_compact.specs.Compacted.{kept_lives, kept_of, rooms}
use Rattle.region_compact.specs.Replace.{replaced_key}
use Rattle.region_compact.proofs.StoredSizes.{IsInside}
use Rattle.region_compact.proofs.sizes.kept_size.Given as goal

abbrev pub invariant-loop-found : goal.invariant-loop-found
invariant-loop-found l = record {
  sum : l.size + rooms (kept_of (region_lives l.region) (replaced_key l.replace) l.found-iterator) ≡ rooms (kept_lives l.region (replaced_key l.replace));
  few : rooms (kept_lives l.region (replaced_key l.replace)) ≤ 131078;
  inside : AllByRecursion (IsInside l.region.bytes) l.found-iterator;
}
