use Rattle.varsvc.proofs.PolicyTexts.{policies_are_short}
use Rattle.varsvc.proofs.policies.policy_plan.plan_text_audit.Goals as goal

pub returns-in-Ok-clause-short : goal.returns-in-Ok-clause-short
returns-in-Ok-clause-short g c = λ done. policies_are_short c.args.input.now c.in-Ok.policies c.in-Ok.ensures.policies
