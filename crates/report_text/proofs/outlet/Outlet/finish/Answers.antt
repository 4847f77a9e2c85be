use Rattle.std.proofs.Common.{[], sym, ◌∙◌}
use Rattle.report_text.proofs.Puts.{puts_nothing}
use Rattle.report_text.proofs.outlet.Outlet.finish.Goals as goal

pub returns-then-is_broken-clause-finished : goal.returns-then-is_broken-clause-finished
returns-then-is_broken-clause-finished g c = puts_nothing _ [] (sym c.is_broken.ensures ∙ c.if-is_broken.true)
