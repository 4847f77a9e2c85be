use Rattle.std.proofs.Common.{ap, sym, set, get_or, ◌∙◌, Some}
use Rattle.svc_core.proofs.Seats.{seat_at_is, set_point_is}
use Rattle.svc_core.specs.declared.point.Point.{Point}
use Rattle.svc_core.specs.declared.seat.Seat.{Seat}
use Rattle.svc_core.proofs.seat.swap_point.Goals as goal

pub returns-clause-seats : goal.returns-clause-seats
returns-clause-seats c =
    let xs = c.args.seats.now in
    let item = c.index-seats-p.result in
    ap (λ (x : Point). let s : Seat = record { calls = (get_or xs c.args.p item).calls; point = x } in set xs c.args.p s) c.replace.ensures.after
    ∙ set_point_is xs c.args.p item c.args.point c.requires

pub returns-clause-point : goal.returns-clause-point
returns-clause-point c = seat_at_is c.args.seats.now c.args.p c.index-seats-p.result c.requires ∙ ap Some (sym c.replace.ensures.value)
