use Rattle.varsvc.proofs.Plans.{planned}
use Rattle.varsvc.specs.FaultLines.{play_line}
use Rattle.varsvc.proofs.play.play_plan.plan_play_fault.Goals as goal

pub returns : goal.returns
returns c =
    planned 3 (play_line c.args.fault) c.new-text.result c.write_play_line.new.out c.plan_text.result c.new-text.ensures c.write_play_line.ensures
    c.plan_text.ensures
