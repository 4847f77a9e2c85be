use Rattle.policy_audit.specs.Entries.{entries_text}
use Rattle.varsvc.proofs.Plans.{planned}
use Rattle.varsvc.proofs.policies.policy_plan.plan_registers.Goals as goal

pub returns-in-Ok : goal.returns-in-Ok
returns-in-Ok c =
    planned 0 (entries_text c.args.policies.now) c.new-text.result c.write_entries.new.out c.plan_text.result c.new-text.ensures c.in-Ok.ensures.ok
    c.plan_text.ensures
