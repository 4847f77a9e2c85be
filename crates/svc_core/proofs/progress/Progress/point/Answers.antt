use Rattle.std.proofs.Common.{ap, sym, ◌∙◌}
use Rattle.svc_core.specs.Progress.{ProgressState, point_at}
use Rattle.svc_core.proofs.Seats.{point_seated, within_seats}
use Rattle.svc_core.proofs.progress.Progress.point.Goals as goal

pub point-requires : goal.point-requires
point-requires c =
    within_seats c.self.inside.seats c.self.inside.session.processors c.args.self.now.processors c.args.p c.self.invariant
    (ap (λ (g : ProgressState). g.processors) c.self.view_is) c.requires

pub returns : goal.returns
returns c =
    ap (λ (g : ProgressState). point_at g.processors c.args.p) (sym c.self.view_is)
    ∙ point_seated c.self.inside.seats c.self.inside.session.processors c.args.p c.self.invariant ∙ c.point.ensures
