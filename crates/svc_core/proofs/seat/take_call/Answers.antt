use Rattle.std.proofs.Common.{List, ap, sym, set, get_or, ◌∙◌}
use Rattle.svc_core.proofs.Seats.{call_of_is, with_calls_is}
use Rattle.svc_core.specs.declared.seat.Seat.{Seat}
use Rattle.var_types.specs.declared.call.Call.{Call}
use Rattle.svc_core.proofs.seat.take_call.Goals as goal

pub returns-clause-seats : goal.returns-clause-seats
returns-clause-seats c =
    let xs = c.args.seats.now in
    let item = c.index-seats-p.result in
    ap (λ (cs : List Call). let s : Seat = record { calls = cs; point = (get_or xs c.args.p item).point } in set xs c.args.p s) c.take.ensures.rest
    ∙ with_calls_is xs c.args.p item c.requires

pub returns-clause-call : goal.returns-clause-call
returns-clause-call c = c.take.ensures.call ∙ sym (call_of_is c.args.seats.now c.args.p c.index-seats-p.result c.requires)
