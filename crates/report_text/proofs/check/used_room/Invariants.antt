use Rattle.std.proofs.Common.{◌≡◌, ◌+◌, map}
use Rattle.var_types.specs.Census.{records_room}
use Rattle.report_text.specs.Held.{entry_of}
use Rattle.report_text.proofs.check.used_room.Given as goal

abbrev pub invariant-loop-key : goal.invariant-loop-key
invariant-loop-key l = l.used + records_room (map entry_of l.key-iterator) ≡ records_room (map entry_of l.held.entries)
