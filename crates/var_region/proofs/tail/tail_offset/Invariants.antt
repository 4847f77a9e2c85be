use Rattle.std.proofs.Common.{◌≡◌, ◌+◌, ◌-◌, ◌≤◌, length}
use Rattle.var_types.specs.Record.{Authenticated, records, tail_from}
use Rattle.var_region.proofs.tail.tail_offset.Given as goal

abbrev pub invariant-records : goal.invariant-records
invariant-records l = record {
  tail : tail_from Authenticated l.at (records Authenticated l.bytes l.at) ≡ tail_from Authenticated l.first (records Authenticated l.bytes l.first);
  near : l.at ≤ length l.bytes + 3;
}

abbrev pub decreases-records : goal.decreases-records
decreases-records l = length l.bytes - l.at
