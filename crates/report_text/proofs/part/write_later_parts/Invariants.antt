use Rattle.std.proofs.Common.{take}
use Rattle.report_text.specs.Line.{later_parts_text}
use Rattle.report_text.proofs.part.write_later_parts.Given as goal

abbrev pub invariant-loop-part : goal.invariant-loop-part
invariant-loop-part g l = g.P.Put.Puts l.initial.out l.out (later_parts_text (take l.part-index l.parts))
