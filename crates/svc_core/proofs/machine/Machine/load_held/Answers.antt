use Rattle.std.proofs.Common.{sym, subst}
use Rattle.svc_core.proofs.Steps.{is_held_is_behind, is_held_is_made}
use Rattle.svc_core.specs.declared.point.Point.TheVariants as point
use Rattle.svc_core.specs.Machine.{IsStep}
use Rattle.svc_core.proofs.machine.Machine.load_held.Goals as goal

pub returns-then-held-made : goal.returns-then-held-made
returns-then-held-made c =
    subst (IsStep c.args.self.now c.args.p (point.LoadHeld c.args.made)) (sym c.put.ensures)
    (is_held_is_made c.args.self.now c.args.p c.args.made c.if-held-made.true)

pub returns-else-held-made : goal.returns-else-held-made
returns-else-held-made c =
    subst (IsStep c.args.self.now c.args.p (point.LoadHeld c.args.made)) (sym c.put-else-held-made.ensures)
    (is_held_is_behind c.args.self.now c.args.p c.args.made c.if-held-made.false)
