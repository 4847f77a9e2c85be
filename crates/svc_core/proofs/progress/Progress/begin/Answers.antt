use Rattle.std.proofs.Common.{◌≡◌, List, [], ◌++◌, Vec, Global, sym, ap, subst, ◌∙◌, ◌≤◌, length, map, length-append, arith}
use Rattle.std.proofs.lemmas.List.{append-nil, nil_from_length}
use Rattle.std.proofs.lemmas.List.Elements.{All-take}
use Rattle.std.proofs.Math.Seq.{take-append_seam}
use Rattle.std.specs.Prelude.{All}
use Rattle.std.specs.Vec.Iter.{into_iter_items}
use Rattle.var_trace.specs.Answers.{AnsweredCalls}
use Rattle.var_trace.specs.Recorded.{Recorded}
use Rattle.var_types.specs.declared.call.Call.{Call}
use Rattle.svc_core.specs.declared.seat.Seat.{Seat}
use Rattle.svc_core.specs.Progress.{AreSeated, most_calls, seat_before, seated, starting}
use Rattle.svc_core.proofs.Seats.{begun, seats_begun}
use Rattle.svc_core.proofs.progress.Progress.begin.Goals as goal

pub invariant_of-result : goal.invariant_of-result
invariant_of-result c =
    let Few = λ (v : Vec Call Global). length v.items ≤ most_calls in
    let so_far = c.loop-calls.yielded in
    let few = subst (All Few) (take-append_seam so_far (into_iter_items c.loop-calls.calls-iterator))
    (All-take Few (length so_far) _ (subst (All Few) (sym c.loop-calls.invariant.whole) c.requires)) in
    subst (λ (zs : List Seat). AreSeated zs c.loop-calls.processors.items) (sym (c.new-2.ensures ∙ c.loop-calls.invariant.seats))
    (subst (λ (zs : List AnsweredCalls). AreSeated (map (λ (v : Vec Call Global). seat_before v.items) so_far) zs) (sym c.loop-calls.invariant.answers)
    (seats_begun (λ (v : Vec Call Global). v.items) so_far few))

-- where as many were taken as there are, all were
all_taken : {X : Type 0} (taken rest whole : List X) → taken ++ rest ≡ whole → length taken ≡ length whole → taken ≡ whole
all_taken taken rest whole e len =
    let none : rest ≡ [] = nil_from_length rest (let z : length rest ≡ 0 = omega (arith, length-append taken rest, ap (λ xs. length xs) e, len) in z) in
    sym (append-nil taken) ∙ ap (λ xs. taken ++ xs) (sym none) ∙ e

pub returns : goal.returns
returns c =
    let so_far = c.loop-calls.yielded in
    let count : length so_far ≡ length c.args.calls.items =
    omega (arith, c.loop-calls.invariant.left, c.in-None.ensures.steps.0, c.args.calls.ok.0) in
    let all = all_taken so_far (into_iter_items c.loop-calls.calls-iterator) c.args.calls.items c.loop-calls.invariant.whole count in
    let processors = ap (λ (zs : List Seat). seated zs c.loop-calls.processors.items) (c.new-2.ensures ∙ c.loop-calls.invariant.seats)
    ∙ ap (λ (zs : List AnsweredCalls). seated (map (λ (v : Vec Call Global). seat_before v.items) so_far) zs) c.loop-calls.invariant.answers
    ∙ begun (λ (v : Vec Call Global). v.items) so_far ∙ ap (map (λ (v : Vec Call Global). starting v.items)) all in
    let log = ap (λ (r : Recorded). r.log) c.in_ok-entries.ensures in
    let limit = ap (λ (r : Recorded). r.limit) c.in_ok-entries.ensures in
    λ i. record { log = log i; limit = limit i; processors = processors i }
