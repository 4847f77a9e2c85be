use Rattle.std.proofs.Common.{◌∙◌, ap, sym}
use Rattle.varsvc.specs.Plan.{text_of}
use Rattle.varsvc.proofs.Streams.{streamed_has_bytes}
use Rattle.varsvc.proofs.output.print.print_plan.Goals as goal

pub returns-in-Stream-clause-quiet : goal.returns-in-Stream-clause-quiet
returns-in-Stream-clause-quiet g c = λ none. absurd (streamed_has_bytes c.in-Stream.streamed (sym (ap text_of c.in-Stream.is) ∙ none))
