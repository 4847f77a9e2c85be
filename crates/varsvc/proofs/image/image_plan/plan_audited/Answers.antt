use Rattle.std.proofs.Common.{◌≡◌, ap, subst, ◌∙◌}
use Rattle.policy_audit.specs.Audit.{audit_text}
use Rattle.var_types.specs.Put.{PutsText}
use Rattle.var_types.specs.Region.{Region, region_map}
use Rattle.varsvc.specs.Plan.{volume_region}
use Rattle.varsvc.proofs.Plans.{planned}
use Rattle.varsvc.proofs.image.image_plan.plan_audited.Goals as goal

pub returns-in-Ok : goal.returns-in-Ok
returns-in-Ok c =
    let is : c.over-region.result ≡ volume_region c.args.content.now = c.over-region.ensures ∙ ap volume_region c.as_slice.ensures.bytes in
    planned 0 (audit_text c.args.policies.now (region_map (volume_region c.args.content.now))) c.new-text.result c.write_audit.new.out c.plan_text.result
    c.new-text.ensures
    (subst (λ (r : Region). PutsText c.new-text.result c.write_audit.new.out (audit_text c.args.policies.now (region_map r))) is c.in-Ok.ensures.ok)
    c.plan_text.ensures
