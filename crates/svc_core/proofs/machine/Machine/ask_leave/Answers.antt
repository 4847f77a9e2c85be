use Rattle.std.proofs.Common.{sym, subst}
use Rattle.svc_core.proofs.Steps.{is_ask_leave}
use Rattle.svc_core.specs.declared.point.Point.TheVariants as point
use Rattle.svc_core.specs.Machine.{IsStep}
use Rattle.svc_core.proofs.machine.Machine.ask_leave.Goals as goal

pub returns : goal.returns
returns c =
    subst (IsStep c.args.self.now c.args.p (point.AskLeave c.args.holder c.args.place c.args.reply)) (sym c.answer.ensures) (is_ask_leave c.args.self.now c.args.p c.args.holder c.args.place c.args.reply)
