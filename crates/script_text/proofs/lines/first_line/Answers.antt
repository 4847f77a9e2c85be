use Rattle.script_text.proofs.LineLemmas.{first_of_lines, last_of_lines}
use Rattle.script_text.proofs.lines.first_line.Goals as goal

pub returns-in-Some-clause-lines : goal.returns-in-Some-clause-lines
returns-in-Some-clause-lines c = first_of_lines c.args.text.now c.without_return.result.now c.in-Some.end c.in-Some.ensures c.without_return.ensures

pub returns-in-None-clause-lines : goal.returns-in-None-clause-lines
returns-in-None-clause-lines c = last_of_lines c.args.text.now c.in-None.ensures c.requires
