use Rattle.std.proofs.Common.{sym, subst, ap, ◌∙◌, ℕ}
use Rattle.svc_core.specs.declared.point.Point.TheVariants as point
use Rattle.svc_core.specs.Machine.{IsStep, put_back}
use Rattle.var_types.specs.declared.answered.Route.TheVariants.{Deferred}
use Rattle.svc_core.proofs.Steps.{is_defer}
use Rattle.svc_core.proofs.machine.Machine.defer.Goals as goal

pub returns : goal.returns
returns c =
    let m = c.args.self.now in
    subst (IsStep m c.args.p (point.Defer c.args.place c.args.reply c.args.holder))
    (sym (c.put.ensures
    ∙ ap (λ (n : ℕ). put_back (record m { made = n }) c.args.p (point.Leave c.args.place c.args.reply (Deferred c.args.holder)))
    (c.made-self.ensures.made ∙ c.requires.clear)))
    (is_defer m c.args.p c.args.place c.args.reply c.args.holder)
