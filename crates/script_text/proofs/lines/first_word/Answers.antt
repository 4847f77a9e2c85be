use Rattle.std.proofs.Common.{◌∙◌}
use Rattle.script_text.proofs.PartLemmas.{words_of-none}
use Rattle.script_text.proofs.lines.first_word.Goals as goal

pub returns : goal.returns
returns c = c.parts.invariant ∙ words_of-none c.parts.rest.now c.parts-test.ensures
