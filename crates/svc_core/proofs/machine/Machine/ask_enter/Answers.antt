use Rattle.std.proofs.Common.{sym, subst}
use Rattle.svc_core.proofs.Steps.{is_ask_enter}
use Rattle.svc_core.specs.declared.point.Point.TheVariants as point
use Rattle.svc_core.specs.Machine.{IsStep}
use Rattle.svc_core.proofs.machine.Machine.ask_enter.Goals as goal

pub returns : goal.returns
returns c =
    subst (IsStep c.args.self.now c.args.p (point.AskEnter c.args.holder)) (sym c.put.ensures) (is_ask_enter c.args.self.now c.args.p c.args.holder)
