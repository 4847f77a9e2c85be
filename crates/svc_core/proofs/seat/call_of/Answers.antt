use Rattle.std.proofs.Common.{sym, ◌∙◌}
use Rattle.svc_core.proofs.Seats.{call_of_is}
use Rattle.svc_core.proofs.seat.call_of.Goals as goal

pub returns : goal.returns
returns c = c.first.ensures ∙ sym (call_of_is c.args.seats.now c.args.p c.index-seats-p.result c.requires)
