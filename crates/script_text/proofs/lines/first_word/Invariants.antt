use Rattle.std.proofs.Common.{◌≡◌, length}
use Rattle.script_text.specs.Lines.{words_of}
use Rattle.script_text.proofs.lines.first_word.Given as goal

abbrev pub invariant-parts : goal.invariant-parts
invariant-parts l = words_of l.line ≡ words_of l.rest

abbrev pub decreases-parts : goal.decreases-parts
decreases-parts l = length l.rest
