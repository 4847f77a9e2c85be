use Rattle.std.proofs.Common.{[], sym, ap, ◌∙◌}
use Rattle.std.proofs.lemmas.List.{append-nil}
use Rattle.report_text.specs.Flow.{Kept}
use Rattle.report_text.proofs.Puts.{puts_front, puts_sent}
use Rattle.report_text.proofs.outlet.Outlet.flush.Goals as goal

pub returns-in-Ok-clause-flushed : goal.returns-in-Ok-clause-flushed
returns-in-Ok-clause-flushed g c =
    let old = c.args.self.now.page.now in
    let new = c.clear.new.self in
    puts_sent _ _ _ _ old new c.bytes.result.now [] c.requires.whole (ap (λ (k : Kept). k.broken) c.clear.ensures ∙ c.requires.whole)
    (c.bytes.ensures ∙ sym (append-nil old.bytes)) (ap (λ (k : Kept). k.bytes) c.clear.ensures) c.in-Ok.ensures.ok c.in-Ok.ensures.cause.done

pub returns-in-Err-clause-flushed : goal.returns-in-Err-clause-flushed
returns-in-Err-clause-flushed g c =
    let old = c.args.self.now.page.now in
    puts_front _ _ _ _ old c.break_off.new.self c.bytes.result.now [] c.requires.whole (ap (λ (k : Kept). k.broken) c.break_off.ensures)
    (c.bytes.ensures ∙ sym (append-nil old.bytes)) c.in-Err.ensures.part c.in-Err.ensures.cause.failed
