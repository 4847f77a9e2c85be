use Rattle.play_steps.proofs.Done.{opening_stays}
use Rattle.var_types.specs.declared.call.Call.TheVariants as calls
use Rattle.var_types.specs.declared.reply.Reply.TheVariants as replies
use Rattle.play_steps.proofs.planning.answer_policy.Goals as goal

pub returns-clause-opening : goal.returns-clause-opening
returns-clause-opening c =
    opening_stays c.args.engine.now c.policy-reply.new.self c.args.processor c.args.index (calls.Policy c.args.call.now) (replies.Policy c.policy-reply.result) c.policy-reply.ensures.answered
