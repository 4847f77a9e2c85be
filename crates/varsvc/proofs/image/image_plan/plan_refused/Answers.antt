use Rattle.varsvc.proofs.Plans.{planned}
use Rattle.varsvc.specs.FaultLines.{image_line}
use Rattle.varsvc.proofs.image.image_plan.plan_refused.Goals as goal

pub returns : goal.returns
returns c =
    planned 4 (image_line c.args.fault) c.new-text.result c.write_image_line.new.out c.plan_text.result c.new-text.ensures c.write_image_line.ensures
    c.plan_text.ensures
