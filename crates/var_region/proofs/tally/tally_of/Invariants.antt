use Rattle.std.proofs.Common.{◌≡◌, ◌+◌, ◌-◌, ◌≤◌, length}
use Rattle.var_types.specs.declared.record_kind.RecordKind.{RecordKind}
use Rattle.var_types.specs.Record.{Authenticated, records}
use Rattle.var_region.specs.Tallies.{IsWithinRecords, count_at, of_kind}
use Rattle.var_region.proofs.tally.tally_of.Given as goal

abbrev pub invariant-records : goal.invariant-records
invariant-records l = record {
  counted : (wanted : RecordKind)
      → of_kind wanted l.tally + count_at wanted l.non_volatile l.bytes (records Authenticated l.bytes l.at)
      ≡ count_at wanted l.non_volatile l.bytes (records Authenticated l.bytes l.first);
  number : l.tally.records + length (records Authenticated l.bytes l.at) ≡ length (records Authenticated l.bytes l.first);
  within : IsWithinRecords l.tally;
  near : l.at ≤ length l.bytes + 3;
}

abbrev pub decreases-records : goal.decreases-records
decreases-records l = length l.bytes - l.at
