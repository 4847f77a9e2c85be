use Rattle.report_text.specs.Check.{check_text}
use Rattle.varsvc.proofs.Plans.{planned}
use Rattle.varsvc.proofs.image.image_plan.plan_facts.Goals as goal

pub returns : goal.returns
returns c =
    planned 0 (check_text c.args.facts.now) c.new-text.result c.write_check.new.out c.plan_text.result c.new-text.ensures c.write_check.ensures
    c.plan_text.ensures
