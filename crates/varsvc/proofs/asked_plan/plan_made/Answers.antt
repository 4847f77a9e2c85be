use Rattle.std.proofs.Common.{refl}
use Rattle.image_make.specs.Generated.{generated_script}
use Rattle.varsvc.proofs.PlannedTexts.{text_done}
use Rattle.varsvc.specs.Outcome.{text_row}
use Rattle.varsvc.proofs.asked_plan.plan_made.Goals as goal

pub returns-clause-text : goal.returns-clause-text
returns-clause-text g c = text_done (text_row (generated_script c.args.number)) (generated_script c.args.number) refl
