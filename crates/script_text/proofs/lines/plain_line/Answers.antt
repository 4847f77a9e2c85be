use Rattle.script_text.proofs.FirstLines.{whole_line}
use Rattle.script_text.proofs.lines.plain_line.Goals as goal

pub returns-in-None : goal.returns-in-None
returns-in-None c = whole_line c.args.text.now c.requires.some c.in-None.ensures
