use Rattle.std.proofs.Common.{List, ap, sym, subst, ◌∙◌, Option}
use Rattle.std.specs.Prelude.{IsSome}
use Rattle.var_trace.specs.Session.{SessionParts}
use Rattle.var_types.specs.declared.call.Call.{Call}
use Rattle.svc_core.specs.declared.seat.Seat.{Seat}
use Rattle.svc_core.specs.Progress.{AreSeated, ProgressState, call_at, seated, with_answer, with_calls}
use Rattle.svc_core.proofs.Seats.{AreSeated-answer, call_seated, room_seated, seated_answer, within_answers, within_seats}
use Rattle.svc_core.proofs.progress.Progress.answer.Goals as goal

pub take_call-requires : goal.take_call-requires
take_call-requires c =
    within_seats c.self.inside.seats c.self.inside.session.processors c.args.self.now.processors c.args.p c.self.invariant
    (ap (λ (g : ProgressState). g.processors) c.self.view_is) c.requires.within

pub unwrap-call-requires : goal.unwrap-call-requires
unwrap-call-requires c =
    subst (λ (o : Option Call). IsSome o)
    (ap (λ (g : ProgressState). call_at g.processors c.args.p) (sym c.self.view_is)
    ∙ call_seated c.self.inside.seats c.self.inside.session.processors c.args.p c.self.invariant ∙ sym c.take_call.ensures.call) c.requires.some

pub answer-requires-clause-known : goal.answer-requires-clause-known
answer-requires-clause-known c =
    within_answers c.self.inside.seats c.self.inside.session.processors c.args.self.now.processors c.args.p c.self.invariant
    (ap (λ (g : ProgressState). g.processors) c.self.view_is) c.requires.within

pub answer-requires-clause-room : goal.answer-requires-clause-room
answer-requires-clause-room c =
    room_seated c.self.inside.seats c.self.inside.session.processors c.args.p c.unwrap-call.result c.self.invariant
    (sym c.take_call.ensures.call ∙ c.unwrap-call.ensures)

pub invariant_of-self : goal.invariant_of-self
invariant_of-self c =
    let xs = c.self.inside.seats in
    let ys = c.self.inside.session.processors in
    let there = sym c.take_call.ensures.call ∙ c.unwrap-call.ensures in
    subst (λ (zs : List Seat). AreSeated zs c.answer.new.self.processors) (sym c.take_call.ensures.seats)
    (subst (λ (s : SessionParts). AreSeated (with_calls xs c.args.p) s.processors) (sym c.answer.ensures)
    (AreSeated-answer c.unwrap-call.result c.args.place c.args.route c.args.reply xs ys c.args.p c.self.invariant there))

pub returns : goal.returns
returns c =
    let xs = c.self.inside.seats in
    let ys = c.self.inside.session.processors in
    let there = sym c.take_call.ensures.call ∙ c.unwrap-call.ensures in
    let processors = ap (λ (zs : List Seat). seated zs c.answer.new.self.processors) c.take_call.ensures.seats
    ∙ ap (λ (s : SessionParts). seated (with_calls xs c.args.p) s.processors) c.answer.ensures
    ∙ seated_answer c.unwrap-call.result c.args.place c.args.route c.args.reply xs ys c.args.p c.self.invariant there
    ∙ ap (λ (g : ProgressState). with_answer g.processors c.args.p c.args.place c.args.route c.args.reply) c.self.view_is in
    let log = ap (λ (s : SessionParts). s.entries.log) c.answer.ensures ∙ ap (λ (g : ProgressState). g.log) c.self.view_is in
    let limit = ap (λ (s : SessionParts). s.entries.limit) c.answer.ensures ∙ ap (λ (g : ProgressState). g.limit) c.self.view_is in
    λ i. record { log = log i; limit = limit i; processors = processors i }
