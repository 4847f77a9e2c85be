use Rattle.play_steps.proofs.Done.{next_done}
use Rattle.play_steps.proofs.planning.answer_next.Goals as goal

pub returns : goal.returns
returns c = λ processor index.
    next_done c.args.engine.now processor index c.args.call.now c.in_ok-reply.reply c.requires c.history-history.ensures.whole c.in_ok-reply.ensures
