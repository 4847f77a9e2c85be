use Rattle.std.proofs.Common.{◌≡◌, ℕ, false, List, [], ◌++◌, sym, ap}
use Rattle.report_text.specs.Flow.{Kept}
use Rattle.report_text.proofs.Puts.{puts_front, puts_sent}
use Rattle.report_text.proofs.outlet.Outlet.send.Goals as goal

pub returns-in-Ok-clause-sent : goal.returns-in-Ok-clause-sent
returns-in-Ok-clause-sent g c =
    let old = c.args.self.now.page.now in
    let bytes = c.args.bytes.now in
    let whole : old.broken ≡ false = ap (λ (k : Kept). k.broken) c.requires.empty in
    let none : old.bytes ≡ [] = ap (λ (k : Kept). k.bytes) c.requires.empty in
    puts_sent _ _ _ _ old old bytes bytes whole whole (sym (ap (λ (t : List ℕ). t ++ bytes) none)) none c.in-Ok.ensures.ok c.in-Ok.ensures.cause.done

pub returns-in-Err-clause-sent : goal.returns-in-Err-clause-sent
returns-in-Err-clause-sent g c =
    let old = c.args.self.now.page.now in
    let bytes = c.args.bytes.now in
    puts_front _ _ _ _ old c.break_off.new.self bytes bytes (ap (λ (k : Kept). k.broken) c.requires.empty) (ap (λ (k : Kept). k.broken) c.break_off.ensures)
    (sym (ap (λ (k : Kept). k.bytes ++ bytes) c.requires.empty)) c.in-Err.ensures.part c.in-Err.ensures.cause.failed
