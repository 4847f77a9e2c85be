use Rattle.report_text.specs.Summary.{summary_line}
use Rattle.varsvc.proofs.Plans.{planned}
use Rattle.varsvc.proofs.run.work_plan.plan_summary.Goals as goal

pub returns : goal.returns
returns c =
    planned 0 (summary_line c.args.summary.now) c.new-text.result c.write_summary.new.out c.plan_text.result c.new-text.ensures c.write_summary.ensures
    c.plan_text.ensures
