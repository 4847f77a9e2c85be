use Rattle.std.proofs.Common.{refl}
use Rattle.report_text.proofs.Puts.{puts_end}
use Rattle.varsvc.proofs.output.print.put_streamed.Goals as goal

pub returns-in-Ok-clause-text : goal.returns-in-Ok-clause-text
returns-in-Ok-clause-text g c =
    let written = c.write_streamed-status.ensures in
    (c.write_streamed-status.result, written.0, written.1, refl, puts_end _ _ _ _ written.2.0 c.finish.ensures.finished)

pub returns-in-Err-clause-text : goal.returns-in-Err-clause-text
returns-in-Err-clause-text g c =
    let written = c.write_streamed-status.ensures in
    (c.write_streamed-status.result, written.0, written.1, tt, puts_end _ _ _ _ written.2.0 c.finish.ensures.finished)
