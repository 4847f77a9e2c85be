use Rattle.std.proofs.Common.{refl}
use Rattle.varsvc.proofs.PlannedTexts.{text_usage}
use Rattle.varsvc.proofs.Plans.{line_text, planned}
use Rattle.varsvc.specs.FaultLines.{usage_line}
use Rattle.varsvc.specs.Outcome.{usage_row}
use Rattle.varsvc.proofs.output.plan.plan_usage.Goals as goal

pub returns-clause-text : goal.returns-clause-text
returns-clause-text c =
    let fault = c.args.fault in
    line_text (usage_row fault) 2 (usage_line fault) c.plan_text.result (text_usage (usage_row fault) (usage_line fault) refl)
    (planned 2 (usage_line fault) c.new-text.result c.write_usage_line.new.out c.plan_text.result c.new-text.ensures c.write_usage_line.ensures c.plan_text.ensures) tt
