use Rattle.std.proofs.Common.{sym, subst, ◌≡◌}
use Rattle.svc_core.proofs.Steps.{is_enter, is_none}
use Rattle.svc_core.specs.declared.point.Point.TheVariants as point
use Rattle.svc_core.specs.Machine.{IsStep}
use Rattle.std.specs.Prelude.{false}
use Rattle.var_trace.specs.Routes.{is_read}
use Rattle.svc_core.proofs.Firsts.{by_call}
use Rattle.svc_core.specs.Progress.{call_at}
use Rattle.svc_core.proofs.machine.Machine.enter.Goals as goal

pub returns : goal.returns
returns c =
    let m = c.args.self.now in
    by_call (IsStep m c.args.p point.Start c.put.new.self) (λ call. is_read call ≡ false) (call_at m.progress.processors c.args.p) c.requires.clear
    (is_none m c.args.p point.Start c.put.new.self)
    (λ call there other. subst (IsStep m c.args.p point.Start) (sym c.put.ensures) (is_enter m c.args.p call there other))
