use Rattle.std.proofs.Common.{sym, ◌∙◌}
use Rattle.report_text.proofs.Puts.{puts_kept, puts_nothing}
use Rattle.report_text.proofs.outlet.Outlet.push.Goals as goal

pub returns-then-is_broken-clause-pushed : goal.returns-then-is_broken-clause-pushed
returns-then-is_broken-clause-pushed g c = puts_nothing _ c.args.bytes.now (sym c.is_broken.ensures ∙ c.if-is_broken.true)

pub returns-then-keep-clause-pushed : goal.returns-then-keep-clause-pushed
returns-then-keep-clause-pushed g c =
    puts_kept _ _ _ _ c.args.bytes.now (sym c.is_broken.ensures ∙ c.if-is_broken.false) (c.keep.ensures.kept c.if-keep.true)
