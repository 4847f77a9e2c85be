use Rattle.std.proofs.Common.{ap, sym, ◌∙◌, List, ℕ, true≢false}
use Rattle.var_types.specs.declared.call.GetCall.{GetCall}
use Rattle.var_types.specs.declared.reply.Reply.TheVariants.{Get as GetReplied}
use Rattle.var_types.specs.Get.{get_reply}
use Rattle.var_types.specs.Step.{step}
use Rattle.mm_writer.specs.Side.{state_of}
use Rattle.varsvc.proofs.run.serving.get_reply.Goals as goal

pub copied_get-requires : goal.copied_get-requires
copied_get-requires g c = record { answered = (_, (c.args.buffer.now, c.get-answer.ensures)) }

pub returns-in-Ok : goal.returns-in-Ok
unfolding step
returns-in-Ok g c =
    let call : GetCall = c.args.call.now in
    let is = c.in-Ok.ensures.reply _ (c.args.buffer.now, c.get-answer.ensures) in
    record {
      same = λ _ _. ap GetReplied (is ∙ ap (λ (name : List ℕ). let asked : GetCall = record call { name = name } in get_reply (state_of c.args.engine.now.1.1) asked) c.as_slice.ensures.items);
      device = λ h. absurd (true≢false (sym h));
    }

pub returns-in-Err : goal.returns-in-Err
returns-in-Err g c = record { same = λ h. absurd (true≢false h); device = λ h. absurd (true≢false (sym h)) }
