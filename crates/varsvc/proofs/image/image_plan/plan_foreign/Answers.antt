use Rattle.varsvc.specs.FaultLines.{foreign_line}
use Rattle.varsvc.proofs.Plans.{planned}
use Rattle.varsvc.proofs.image.image_plan.plan_foreign.Goals as goal

pub returns : goal.returns
returns c =
    planned 4 foreign_line c.new-text.result c.write_foreign_line.new.out c.plan_text.result c.new-text.ensures c.write_foreign_line.ensures
    c.plan_text.ensures
