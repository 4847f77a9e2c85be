use Rattle.std.proofs.Common.{sym, ap, ◌∙◌}
use Rattle.var_types.specs.PolicyStep.{policy_step}
use Rattle.var_types.specs.State.{State}
use Rattle.svc_plain.proofs.plain.Plain.policy_step.Goals as goal

pub returns-clause-done : goal.returns-clause-done
returns-clause-done c = λ had.
    let inside = c.self.inside in
    let state : State = record {
      variables = inside.variables.entries;
      policies = inside.table.policies;
      policy_on = inside.table.policy_on;
      locked = inside.table.locked;
      runtime = inside.runtime;
      made = inside.made;
      limit = inside.limit;
    } in
    sym (c.answer.ensures.done state had) ∙ ap (λ (s : State). policy_step s c.args.call.now) c.self.view_is
