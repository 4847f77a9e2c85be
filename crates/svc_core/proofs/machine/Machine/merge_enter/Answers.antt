use Rattle.std.proofs.Common.{sym, subst}
use Rattle.svc_core.proofs.Steps.{is_merge_enter}
use Rattle.svc_core.specs.declared.point.Point.TheVariants as point
use Rattle.svc_core.specs.Machine.{IsStep}
use Rattle.svc_core.proofs.machine.Machine.merge_enter.Goals as goal

pub returns : goal.returns
returns c =
    subst (IsStep c.args.self.now c.args.p (point.MergeEnter c.args.made c.args.held)) (sym c.put.ensures) (is_merge_enter c.args.self.now c.args.p c.args.made c.args.held)
