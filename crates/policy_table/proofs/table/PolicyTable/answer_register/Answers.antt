use Rattle.std.proofs.Common.{List, ℕ, false, subst, sym, ap, ◌≡◌, ◌∙◌}
use Rattle.policy_table.proofs.Registers.{done_is, full_is, refused_is}
use Rattle.policy_table.specs.Answers.{RefusesRegister, state_with}
use Rattle.var_types.specs.PolicyStep.{policy_step, registered}
use Rattle.var_types.specs.Step.{lacks_memory}
use Rattle.var_types.specs.declared.call.Call.TheVariants.{Policy as PolicyCalled}
use Rattle.var_types.specs.declared.policy_call.PolicyCall.TheVariants.{Register}
use Rattle.var_types.specs.declared.policy_reply.PolicyReply.{PolicyReply}
use Rattle.var_types.specs.declared.reply.Reply.TheVariants.{Policy as PolicyReplied}
use Rattle.policy_table.proofs.table.PolicyTable.answer_register.Goals as goal

pub returns-then-limit-made-clause-done : goal.returns-then-limit-made-clause-done
returns-then-limit-made-clause-done c = λ state had.
    full_is state c.args.self.now c.args.made.now c.args.limit c.args.entry.now c.in-Ok.policy
    (ap (registered c.args.self.now.policies c.args.self.now.locked) (sym c.as_slice.ensures.items) ∙ c.in-Ok.ensures.ok) c.if-limit-made.true

pub returns-in-Err-clause-done : goal.returns-in-Err-clause-done
returns-in-Err-clause-done c = λ state had.
    let table = c.args.self.now in
    let entry = c.args.entry.now in
    let said : RefusesRegister table entry c.in-Err.reason =
    subst (λ (bytes : List ℕ). RefusesRegister table bytes c.in-Err.reason) c.as_slice.ensures.items c.in-Err.ensures.err in
    subst (λ (r : PolicyReply). lacks_memory (PolicyCalled (Register entry)) (PolicyReplied r) ≡ false
    → policy_step (state_with state table c.args.made.now c.args.limit) (Register entry) ≡ (r, state_with state table c.args.made.now c.args.limit))
    (sym c.refused.ensures) (refused_is state table c.args.made.now c.args.limit entry c.in-Err.reason said) had

pub returns-in-Ok-put-clause-done : goal.returns-in-Ok-put-clause-done
returns-in-Ok-put-clause-done c = λ state had.
    done_is state c.args.self.now c.args.made.now c.args.limit c.args.entry.now c.in-Ok.policy c.put.new.self
    (ap (registered c.args.self.now.policies c.args.self.now.locked) (sym c.as_slice.ensures.items) ∙ c.in-Ok.ensures.ok) c.if-limit-made.false c.in-Ok-put.ensures.ok
