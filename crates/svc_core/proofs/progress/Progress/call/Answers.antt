use Rattle.std.proofs.Common.{ap, sym, ◌∙◌}
use Rattle.svc_core.specs.Progress.{ProgressState, call_at}
use Rattle.svc_core.proofs.Seats.{call_seated, within_seats}
use Rattle.svc_core.proofs.progress.Progress.call.Goals as goal

pub call-requires : goal.call-requires
call-requires c =
    within_seats c.self.inside.seats c.self.inside.session.processors c.args.self.now.processors c.args.p c.self.invariant
    (ap (λ (g : ProgressState). g.processors) c.self.view_is) c.requires

pub returns : goal.returns
returns c =
    c.call.ensures ∙ sym (call_seated c.self.inside.seats c.self.inside.session.processors c.args.p c.self.invariant)
    ∙ ap (λ (g : ProgressState). call_at g.processors c.args.p) c.self.view_is
