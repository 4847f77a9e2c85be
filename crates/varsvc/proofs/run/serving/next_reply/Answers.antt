use Rattle.std.proofs.Common.{ap, sym, ◌∙◌, List, ℕ, true≢false}
use Rattle.var_types.specs.declared.call.NextCall.{NextCall}
use Rattle.var_types.specs.declared.reply.Reply.TheVariants.{Next as NextReplied}
use Rattle.var_types.specs.Next.{next_reply}
use Rattle.var_types.specs.Step.{step}
use Rattle.mm_writer.specs.Side.{state_of}
use Rattle.varsvc.proofs.run.serving.next_reply.Goals as goal

pub copied_next-requires-clause-answered : goal.copied_next-requires-clause-answered
copied_next-requires-clause-answered g c = (_, (c.args.buffer.now, c.next-answer.ensures))

pub returns-in-Ok : goal.returns-in-Ok
unfolding step
returns-in-Ok g c =
    let call : NextCall = c.args.call.now in
    let is = c.in-Ok.ensures.reply _ (c.args.buffer.now, c.next-answer.ensures) in
    record {
      same = λ _ _. ap NextReplied (is ∙ ap (λ (name : List ℕ). let asked : NextCall = record call { name = name } in next_reply (state_of c.args.engine.now.1.1) asked) c.as_slice.ensures.items);
      device = λ h. absurd (true≢false (sym h));
    }

pub returns-in-Err : goal.returns-in-Err
returns-in-Err g c = record { same = λ h. absurd (true≢false h); device = λ h. absurd (true≢false (sym h)) }
