use Rattle.std.proofs.Common.{sym, ap, ◌∙◌, arith}
use Rattle.script_text.specs.Reached.{reached}
use Rattle.script_text.proofs.Processors.{held, held-all, held-push}
use Rattle.script_text.proofs.call_lines.reach.Goals as goal

pub reached-preserved : goal.reached-preserved
reached-preserved c =
    ap (λ lists. reached (held lists) c.args.processor) c.in_ok-push.ensures.items
    ∙ held-push c.reached.processors.items c.new.result c.args.processor c.new.ensures.items (omega arith) ∙ c.reached.invariant

pub returns-clause-ok : goal.returns-clause-ok
returns-clause-ok c = sym (held-all c.reached.processors.items c.args.processor (omega arith)) ∙ c.reached.invariant
