use Rattle.std.proofs.Common.{◌≡◌, ◌+◌, map}
use Rattle.report_text.specs.Held.{entry_of}
use Rattle.report_text.specs.Sizes.{data_bytes}
use Rattle.report_text.proofs.sizes.held_bytes.Given as goal

abbrev pub invariant-loop-found : goal.invariant-loop-found
invariant-loop-found l = l.bytes + data_bytes (map entry_of l.found-iterator) ≡ data_bytes (map entry_of l.held.entries)
