use Rattle.std.proofs.Common.{inr}
use Rattle.report_text.specs.Word.{word_text}
use Rattle.varsvc.specs.FaultLines.{memory_line}
use Rattle.varsvc.specs.Plan.{ComesTo}
use Rattle.varsvc.proofs.Streams.{gains_wider}
use Rattle.varsvc.proofs.output.print.print_streamed.Goals as goal

pub returns-in-Err-clause-gains : goal.returns-in-Err-clause-gains
unfolding memory_line word_text
returns-in-Err-clause-gains g c = gains_wider _ (ComesTo c.args.streamed.now) _ _ _ (λ n t is. inr is) c.print_text.ensures.gains
