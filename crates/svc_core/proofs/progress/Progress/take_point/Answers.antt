use Rattle.std.proofs.Common.{List, ap, sym, subst, ◌∙◌}
use Rattle.svc_core.specs.declared.seat.Seat.{Seat}
use Rattle.svc_core.specs.Progress.{AreSeated, ProgressState, point_at, seated, with_point}
use Rattle.svc_core.specs.declared.point.Point.TheVariants.{Start}
use Rattle.svc_core.proofs.Seats.{AreSeated-point, point_seated, seated_point, within_seats}
use Rattle.svc_core.proofs.progress.Progress.take_point.Goals as goal

pub swap-requires : goal.swap-requires
swap-requires c =
    within_seats c.self.inside.seats c.self.inside.session.processors c.args.self.now.processors c.args.p c.self.invariant
    (ap (λ (g : ProgressState). g.processors) c.self.view_is) c.requires

pub invariant_of-self : goal.invariant_of-self
invariant_of-self c =
    let xs = c.self.inside.seats in
    let ys = c.self.inside.session.processors in
    subst (λ (zs : List Seat). AreSeated zs ys)
    (sym c.swap.ensures.seats)
    (AreSeated-point xs ys c.args.p Start c.self.invariant)

pub returns-clause-point : goal.returns-clause-point
returns-clause-point c =
    let xs = c.self.inside.seats in
    let ys = c.self.inside.session.processors in
    ap (λ (g : ProgressState). point_at g.processors c.args.p) (sym c.self.view_is) ∙ point_seated xs ys c.args.p c.self.invariant
    ∙ c.swap.ensures.point

pub returns-clause-rest : goal.returns-clause-rest
returns-clause-rest c =
    let xs = c.self.inside.seats in
    let ys = c.self.inside.session.processors in
    let seats = c.swap.ensures.seats in
    let processors = ap (λ (zs : List Seat). seated zs ys) seats ∙ seated_point xs ys c.args.p Start
    ∙ ap (λ (g : ProgressState). with_point g.processors c.args.p Start) c.self.view_is in
    let log = ap (λ (g : ProgressState). g.log) c.self.view_is in
    let limit = ap (λ (g : ProgressState). g.limit) c.self.view_is in
    λ i. record { log = log i; limit = limit i; processors = processors i }
