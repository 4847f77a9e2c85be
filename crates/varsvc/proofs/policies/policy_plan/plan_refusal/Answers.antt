use Rattle.policy_audit.specs.Refusal.{refusal_line}
use Rattle.varsvc.proofs.Plans.{planned}
use Rattle.varsvc.proofs.policies.policy_plan.plan_refusal.Goals as goal

pub returns : goal.returns
returns c =
    planned 3 (refusal_line c.args.fault) c.new-text.result c.write_refusal.new.out c.plan_text.result c.new-text.ensures c.write_refusal.ensures
    c.plan_text.ensures
