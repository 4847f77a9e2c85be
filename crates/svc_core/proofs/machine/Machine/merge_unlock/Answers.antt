use Rattle.std.proofs.Common.{sym, subst}
use Rattle.svc_core.proofs.Steps.{is_merge_unlock}
use Rattle.svc_core.specs.declared.point.Point.TheVariants as point
use Rattle.svc_core.specs.Machine.{IsStep}
use Rattle.svc_core.proofs.machine.Machine.merge_unlock.Goals as goal

pub returns : goal.returns
returns c =
    subst (IsStep c.args.self.now c.args.p (point.MergeUnlock c.args.made c.args.held c.args.place c.args.reply)) (sym c.answer.ensures) (is_merge_unlock c.args.self.now c.args.p c.args.made c.args.held c.args.place c.args.reply)
