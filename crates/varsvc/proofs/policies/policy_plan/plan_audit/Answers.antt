use Rattle.std.proofs.Common.{sym, subst}
use Rattle.varsvc.specs.Input.{IsInput}
use Rattle.varsvc.proofs.PolicyTexts.{reads_same}
use Rattle.varsvc.proofs.policies.policy_plan.plan_audit.Goals as goal

pub returns-in-Ok-clause-text : goal.returns-in-Ok-clause-text
returns-in-Ok-clause-text g c =
    let left = g.S.Source.left c.args.source.now in
    c.plan_text_audit.ensures.text left (reads_same left c.as_slice.result.now (subst (IsInput left) (sym c.as_slice.ensures.items) c.in-Ok.ensures.bytes))
