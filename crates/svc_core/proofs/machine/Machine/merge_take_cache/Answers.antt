use Rattle.std.proofs.Common.{sym, subst}
use Rattle.svc_core.proofs.Steps.{is_merge_take_cache}
use Rattle.svc_core.specs.declared.point.Point.TheVariants as point
use Rattle.svc_core.specs.Machine.{IsStep}
use Rattle.svc_core.proofs.machine.Machine.merge_take_cache.Goals as goal

pub returns : goal.returns
returns c =
    subst (IsStep c.args.self.now c.args.p (point.MergeTakeCache c.args.made c.args.held c.args.place)) (sym c.put.ensures) (is_merge_take_cache c.args.self.now c.args.p c.args.made c.args.held c.args.place)
