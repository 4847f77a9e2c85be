use Rattle.std.proofs.Common.{◌∙◌, ℕ, subst}
use Rattle.flash_dev.specs.declared.image_fault.ImageFault.TheVariants.{ImageSize}
use Rattle.varsvc.specs.FaultLines.{image_line}
use Rattle.varsvc.specs.Plan.{PlansLine}
use Rattle.varsvc.proofs.Volumes.{size_text}
use Rattle.varsvc.proofs.image.image_plan.plan_inspection.Goals as goal

pub returns-then-have-ne-IMAGE_BYTES-clause-text : goal.returns-then-have-ne-IMAGE_BYTES-clause-text
returns-then-have-ne-IMAGE_BYTES-clause-text g c =
    size_text c.args.what (g.F.Flash.holds c.args.flash.now) (g.F.Flash.size c.args.flash.now) c.plan_refused.result
    (λ e. c.if-have-ne-IMAGE_BYTES.true (c.len-have.ensures ∙ e)) (g.met.F.Flash.sized c.args.flash.now)
    (subst (λ (n : ℕ). PlansLine 4 (image_line (ImageSize n 131072)) c.plan_refused.result) c.len-have.ensures c.plan_refused.ensures)
