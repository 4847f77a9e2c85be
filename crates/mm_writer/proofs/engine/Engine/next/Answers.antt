use Rattle.std.proofs.Common.{ap, ◌∙◌}
use Rattle.mm_writer.proofs.Sides.{means_now}
use Rattle.mm_writer.proofs.Views.{apart_view}
use Rattle.mm_writer.specs.Side.{state_of}
use Rattle.var_types.specs.Answers.{next_answer}
use Rattle.var_types.specs.declared.call.NextCall.{NextCall}
use Rattle.var_types.specs.Next.{next_reply}
use Rattle.mm_writer.proofs.engine.Engine.next.Goals as goal

pub returns : goal.returns
returns g c =
    let side = c.args.self.now.1.1 in
    let call : NextCall = record { guid = c.args.guid.now; name = c.args.name.now; room = c.args.room } in
    let means = means_now side c.view-view.ensures.consistent in
    let alike = (c.stores_answer_for_their_state.ensures.alike side.stores (state_of side) c.view-view.ensures.stands.ordered means).1 call in
    c.next.ensures
    (apart_view c.view-view.result (state_of side) c.view-view.ensures.stands side.stores means c.stores_answer_for_their_state.ensures.apart)
    ∙ ap (λ state. next_answer (next_reply state call) c.args.into.now) c.view-view.ensures.seen
    ∙ ap (λ reply. next_answer reply c.args.into.now) alike
