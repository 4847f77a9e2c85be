use Rattle.std.proofs.Common.{sym, subst}
use Rattle.svc_core.proofs.Steps.{is_flush_later, is_flush_lock}
use Rattle.svc_core.specs.declared.point.Point.TheVariants as point
use Rattle.svc_core.specs.Machine.{IsStep}
use Rattle.svc_core.proofs.machine.Machine.try_lock.Goals as goal

pub returns-then-holder-eq0 : goal.returns-then-holder-eq0
returns-then-holder-eq0 c =
    subst (IsStep c.args.self.now c.args.p (point.TryLock c.args.place c.args.reply)) (sym c.put.ensures)
    (is_flush_lock c.args.self.now c.args.p c.args.place c.args.reply c.if-holder-eq0.true)

pub returns-else-holder-eq0 : goal.returns-else-holder-eq0
returns-else-holder-eq0 c =
    subst (IsStep c.args.self.now c.args.p (point.TryLock c.args.place c.args.reply)) (sym c.put-else-holder-eq0.ensures)
    (is_flush_later c.args.self.now c.args.p c.args.place c.args.reply c.if-holder-eq0.false)
