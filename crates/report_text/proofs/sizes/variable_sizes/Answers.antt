use Rattle.std.proofs.Common.{map, arith}
use Rattle.std.proofs.lemmas.List.{length-map}
use Rattle.report_text.proofs.RoomUsed.{few_bytes, few_entries}
use Rattle.report_text.specs.Held.{entry_of}
use Rattle.report_text.proofs.sizes.variable_sizes.Goals as goal

pub held_bytes-requires : goal.held_bytes-requires
held_bytes-requires c = omega (arith, few_bytes (map entry_of c.in_ok-held.held.entries), c.in_ok-held.ensures.room)

pub returns-clause-small : goal.returns-clause-small
returns-clause-small c =
    let entries = c.in_ok-held.held.entries in (
      omega (arith, c.len.ensures.len, length-map entries entry_of, few_entries (map entry_of entries), c.in_ok-held.ensures.room),
      omega (arith, c.held_bytes.ensures, few_bytes (map entry_of entries), c.in_ok-held.ensures.room),
    )
