use Rattle.std.proofs.Common.{◌<◌, ◌≡◌, Option, subst, sym, ap, ◌∙◌, length}
use Rattle.std.specs.Prelude.{IsSome}
use Rattle.var_types.specs.declared.call.Call.{Call}
use Rattle.svc_core.proofs.Advances.{advances, back, clear_taken, on_err, on_ok}
use Rattle.svc_core.proofs.Points.{call_point, length-point}
use Rattle.svc_core.specs.declared.point.Point.TheVariants.{Start}
use Rattle.svc_core.specs.Machine.{IsAdvance, IsClear, IsStep, put_back}
use Rattle.svc_core.specs.Progress.{ProgressState, call_at}
use Rattle.svc_core.proofs.machine.Machine.advance.Goals as goal

pub go-requires-clause-within : goal.go-requires-clause-within
go-requires-clause-within c =
    subst (λ (g : ProgressState). c.args.p < length g.processors) (sym c.take_point-point.ensures.rest)
    (subst (λ n. c.args.p < n) (sym (length-point c.args.self.now.progress.processors c.args.p Start)) c.requires.within)

pub go-requires-clause-some : goal.go-requires-clause-some
go-requires-clause-some c =
    subst (λ (g : ProgressState). IsSome (call_at g.processors c.args.p)) (sym c.take_point-point.ensures.rest)
    (subst (λ (o : Option Call). IsSome o) (sym (call_point c.args.self.now.progress.processors c.args.p Start)) c.requires.some)

pub go-requires-clause-clear : goal.go-requires-clause-clear
go-requires-clause-clear c =
    let m = c.args.self.now in
    subst (λ (g : ProgressState). IsClear (call_at g.processors c.args.p) (record m { progress = g }) c.take_point-point.result)
    (sym c.take_point-point.ensures.rest)
    (clear_taken m c.args.p c.take_point-point.result c.take_point-point.ensures.point c.requires.clear)

pub returns-clause-ok : goal.returns-clause-ok
returns-clause-ok c =
    let m = c.args.self.now in
    let x = c.take_point-point.result in
    let taken = λ (g : ProgressState). IsStep (record m { progress = g }) c.args.p x c.go.new.self in
    on_ok c.go.result (taken c.take_point-point.new.self) (IsAdvance m c.args.p c.go.new.self)
    (λ step. advances m c.args.p x c.take_point-point.ensures.point c.go.new.self (subst taken c.take_point-point.ensures.rest step)) c.go.ensures.ok

pub returns-clause-err : goal.returns-clause-err
returns-clause-err c =
    let m = c.args.self.now in
    let x = c.take_point-point.result in
    on_err c.go.result (c.go.new.self ≡ put_back (record m { progress = c.take_point-point.new.self }) c.args.p x) (c.go.new.self ≡ m)
    (λ same. same ∙ ap (λ (g : ProgressState). put_back (record m { progress = g }) c.args.p x) c.take_point-point.ensures.rest
    ∙ back m c.args.p x c.take_point-point.ensures.point) c.go.ensures.err
