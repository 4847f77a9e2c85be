use Rattle.script_text.proofs.LineProcessors.{line_call-small}
use Rattle.script_text.proofs.call_lines.read_line.Goals as goal

pub add_call-requires : goal.add_call-requires
add_call-requires c =
    line_call-small c.args.line.now (c.in-Ok-Some.processor, c.in-Ok-Some.call) (rw c.in-Ok-Some.field-0-is at c.in-Ok-Some.ensures)
