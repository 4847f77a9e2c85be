use Rattle.std.proofs.Common.{sym, subst}
use Rattle.svc_core.proofs.Steps.{is_leave}
use Rattle.svc_core.specs.declared.point.Point.TheVariants as point
use Rattle.svc_core.specs.Machine.{IsStep}
use Rattle.svc_core.proofs.machine.Machine.leave.Goals as goal

pub returns : goal.returns
returns c =
    subst (IsStep c.args.self.now c.args.p (point.Leave c.args.place c.args.reply c.args.route)) (sym c.answer.ensures) (is_leave c.args.self.now c.args.p c.args.place c.args.reply c.args.route)
