use Rattle.std.proofs.Common.{List, ℕ, refl}
use Rattle.report_text.specs.Summary.{summary_line}
use Rattle.varsvc.proofs.PlannedTexts.{text_done}
use Rattle.varsvc.proofs.Plans.{line_text}
use Rattle.varsvc.specs.Outcome.{text_row}
use Rattle.varsvc.specs.Work.{work_summary}
use Rattle.varsvc.proofs.asked_plan.plan_worked.Goals as goal

pub returns-clause-text : goal.returns-clause-text
returns-clause-text g c =
    let line : List ℕ = summary_line (work_summary c.args.number) in
    line_text (text_row line) 0 line c.plan_work.result (text_done (text_row line) line refl) c.plan_work.ensures tt
