use Rattle.image_make.specs.Generated.{first_calls, lines_text}
use Rattle.image_make.proofs.script.make_script.Given as goal

abbrev pub invariant-loop-index : goal.invariant-loop-index
invariant-loop-index g l = g.P.Put.Puts l.initial.out l.out (lines_text (first_calls l.number l.index))
