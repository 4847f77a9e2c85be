use Rattle.svc_core.proofs.Seats.{seat_at_is}
use Rattle.svc_core.proofs.seat.point_of.Goals as goal

pub returns : goal.returns
returns c = seat_at_is c.args.seats.now c.args.p c.index-seats-p.result c.requires
