use Rattle.std.proofs.Common.{sym, ◌∙◌}
use Rattle.report_text.proofs.Puts.{puts_kept, puts_nothing}
use Rattle.report_text.proofs.outlet.Outlet.push_hex.Goals as goal

pub returns-then-is_broken-clause-pushed : goal.returns-then-is_broken-clause-pushed
returns-then-is_broken-clause-pushed g c = puts_nothing _ _ (sym c.is_broken.ensures ∙ c.if-is_broken.true)

pub returns-then-keep_hex-clause-pushed : goal.returns-then-keep_hex-clause-pushed
returns-then-keep_hex-clause-pushed g c =
    puts_kept _ _ _ _ _ (sym c.is_broken.ensures ∙ c.if-is_broken.false) (c.keep_hex.ensures.kept c.if-keep_hex.true)
