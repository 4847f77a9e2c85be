use Rattle.varsvc.proofs.Plans.{planned}
use Rattle.varsvc.specs.FaultLines.{script_line}
use Rattle.varsvc.proofs.run.run_plan.plan_script_fault.Goals as goal

pub returns : goal.returns
returns c =
    planned 3 (script_line c.args.fault) c.new-text.result c.write_script_line.new.out c.plan_text.result c.new-text.ensures c.write_script_line.ensures
    c.plan_text.ensures
