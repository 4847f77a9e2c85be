use Rattle.script_text.proofs.PartLemmas.{words_at, words_last}
use Rattle.script_text.proofs.lines.first_part.Goals as goal

pub returns-in-Some-clause-parts : goal.returns-in-Some-clause-parts
returns-in-Some-clause-parts c = words_at c.args.text.now c.in-Some.at c.in-Some.ensures

pub returns-in-None-clause-parts : goal.returns-in-None-clause-parts
returns-in-None-clause-parts c = words_last c.args.text.now c.in-None.ensures
