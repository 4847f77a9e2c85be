use Rattle.std.proofs.Common.{ap, ◌∙◌}
use Rattle.mm_writer.proofs.Sides.{means_now}
use Rattle.mm_writer.specs.Side.{state_of}
use Rattle.var_types.specs.Answers.{get_answer}
use Rattle.var_types.specs.declared.call.GetCall.{GetCall}
use Rattle.var_types.specs.Get.{get_reply}
use Rattle.mm_writer.proofs.engine.Engine.get.Goals as goal

pub returns : goal.returns
returns g c =
    let side = c.args.self.now.1.1 in
    let call : GetCall = record { guid = c.args.guid.now; name = c.args.name.now; room = c.args.room } in
    let alike = (c.stores_answer_for_their_state.ensures.alike side.stores (state_of side) c.view-view.ensures.stands.ordered (means_now side c.view-view.ensures.consistent)).0 call in
    c.get.ensures ∙ ap (λ state. get_answer (get_reply state call) c.args.into.now) c.view-view.ensures.seen
    ∙ ap (λ reply. get_answer reply c.args.into.now) alike
