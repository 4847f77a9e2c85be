use Rattle.std.proofs.Common.{List, subst, sym, ◌≡◌, ◌∙◌}
use Rattle.policy_table.proofs.Judged.{judged}
use Rattle.var_types.specs.Policies.{best, denied_by, question_of}
use Rattle.var_types.specs.declared.policy.Policy.{Policy}
use Rattle.policy_table.proofs.table.PolicyTable.judge.Goals as goal

pub returns-then-enabled : goal.returns-then-enabled
returns-then-enabled g c = λ state is.
    judged state c.args.self.now (question_of c.args.ask.now) c.denial.result (sym c.enabled.ensures ∙ c.if-enabled.true)
    (subst (λ (ps : List Policy). c.denial.result ≡ denied_by state (question_of c.args.ask.now) (best ps (question_of c.args.ask.now).key)) c.policies.ensures.items
    (c.denial.ensures state is))
