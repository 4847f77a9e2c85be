use Rattle.std.proofs.Common.{sym, subst, ◌≡◌}
use Rattle.svc_core.proofs.Steps.{is_lock_free, is_lock_taken, is_none}
use Rattle.svc_core.specs.declared.point.Point.TheVariants as point
use Rattle.svc_core.specs.Machine.{IsStep}
use Rattle.std.specs.Prelude.{true}
use Rattle.var_trace.specs.Routes.{is_read}
use Rattle.svc_core.proofs.Firsts.{by_call}
use Rattle.svc_core.specs.Progress.{call_at}
use Rattle.svc_core.proofs.machine.Machine.start_read.Goals as goal

pub returns-then-holder-eq0 : goal.returns-then-holder-eq0
returns-then-holder-eq0 c =
    let m = c.args.self.now in
    by_call (IsStep m c.args.p point.Start c.put.new.self) (λ call. is_read call ≡ true) (call_at m.progress.processors c.args.p) c.requires.clear
    (is_none m c.args.p point.Start c.put.new.self)
    (λ call there reads.
    subst (IsStep m c.args.p point.Start) (sym c.put.ensures) (is_lock_free m c.args.p call there reads c.if-holder-eq0.true))

pub returns-else-holder-eq0 : goal.returns-else-holder-eq0
returns-else-holder-eq0 c =
    let m = c.args.self.now in
    let next = c.put-else-holder-eq0.new.self in
    by_call (IsStep m c.args.p point.Start next) (λ call. is_read call ≡ true) (call_at m.progress.processors c.args.p) c.requires.clear
    (is_none m c.args.p point.Start next)
    (λ call there reads.
    subst (IsStep m c.args.p point.Start) (sym c.put-else-holder-eq0.ensures) (is_lock_taken m c.args.p call there reads c.if-holder-eq0.false))
