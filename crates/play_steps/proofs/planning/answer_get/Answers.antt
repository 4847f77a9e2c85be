use Rattle.play_steps.proofs.Done.{get_done}
use Rattle.play_steps.proofs.planning.answer_get.Goals as goal

pub returns : goal.returns
returns c = λ processor index.
    get_done c.args.engine.now processor index c.args.call.now c.in_ok-reply.reply c.requires c.history-history.ensures.whole c.in_ok-reply.ensures
