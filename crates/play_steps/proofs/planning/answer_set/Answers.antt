use Rattle.std.proofs.Common.{Option, sym, subst, ◌∙◌}
use Rattle.mm_writer.specs.Doubt.{SetInDoubt}
use Rattle.mm_writer.specs.Outcome.{IsSetLeft}
use Rattle.play_steps.proofs.Done.{opening_stays, set_done, told_all}
use Rattle.play_steps.specs.EngineWriter.{IsDone}
use Rattle.play_steps.specs.ListedFlash.{StaysListed}
use Rattle.var_types.specs.declared.call.Call.TheVariants as calls
use Rattle.var_types.specs.declared.reply.Reply.TheVariants as replies
use Rattle.var_types.specs.declared.reply.SetReply.{SetReply}
use Rattle.play_steps.proofs.planning.answer_set.Goals as goal

pub returns-clause-opening : goal.returns-clause-opening
returns-clause-opening c =
    opening_stays c.args.engine.now c.set-reply.new.self c.args.processor c.args.index (calls.Set c.args.call.now) (replies.Set c.set-reply.result)
    c.set-reply.ensures.answered

pub returns-clause-done : goal.returns-clause-done
returns-clause-done c =
    let old = c.args.engine.now in
    let new = c.set-reply.new.self in
    let made = c.set-reply.ensures in
    told_all c.told_set.result _ _ _
    (λ (r : SetReply). IsDone old new c.args.processor c.args.index (calls.Set c.args.call.now) (replies.Set r))
    c.told_set.ensures.same c.told_set.ensures.memory c.told_set.ensures.device
    (λ reply same memory device.
    subst (λ (r : SetReply). IsDone old new c.args.processor c.args.index (calls.Set c.args.call.now) (replies.Set r)) (sym same)
    (set_done old new c.args.processor c.args.index c.args.call.now c.set-reply.result c.requires c.history-history.ensures.whole made.answered made.untouched
    made.same_doubt made.sure (subst (λ (doubt : Option SetInDoubt). StaysListed (IsSetLeft old.1.1 doubt c.args.call.now) old.0 new.0) c.requires.sure made.at_any_moment) (λ e. memory (same ∙ e)) (λ e. device (same ∙ e))))
