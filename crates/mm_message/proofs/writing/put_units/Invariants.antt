use Rattle.std.proofs.Common.{take}
use Rattle.mm_message.specs.Spellings.{name_bytes}
use Rattle.mm_message.proofs.writing.put_units.Given as goal

abbrev pub invariant-loop-unit : goal.invariant-loop-unit
invariant-loop-unit g l = g.P.Put.Puts l.initial.out l.out (name_bytes (take l.unit-index l.units))
