use Rattle.std.proofs.Common.{◌≡◌, ◌+◌, ◌*◌, drop, length}
use Rattle.var_types.specs.Placed.{placed}
use Rattle.var_region.specs.NewRecord.{unit_bytes}
use Rattle.var_region.proofs.appending.write_units.Given as goal

abbrev pub invariant-loop-unit : goal.invariant-loop-unit
invariant-loop-unit l = record {
  next : l.next ≡ l.at + 2 * l.unit-index;
  len : length l.bytes ≡ length l.fn.bytes;
  bytes : placed l.next (unit_bytes (drop l.unit-index l.units)) l.bytes ≡ placed l.at (unit_bytes l.units) l.fn.bytes;
}
