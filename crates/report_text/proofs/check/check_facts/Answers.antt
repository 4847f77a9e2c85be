use Rattle.std.proofs.Common.{map, arith}
use Rattle.std.proofs.lemmas.List.{length-map}
use Rattle.report_text.proofs.RoomUsed.{few_entries}
use Rattle.report_text.specs.Held.{entry_of}
use Rattle.report_text.proofs.check.check_facts.Goals as goal

pub overflow_cast-result : goal.overflow_cast-result
overflow_cast-result c =
    let entries = c.in_ok-held.held.entries in
    omega (arith, c.len.ensures.len, length-map entries entry_of, few_entries (map entry_of entries), c.in_ok-held.ensures.room)
