use Rattle.std.proofs.Common.{◌≡◌, ◌∙◌, ℕ, List, Result, Err, ap, arith, length-take-le, sym, take}
use Rattle.flash_dev.specs.declared.geometry.Geometry.{Geometry}
use Rattle.flash_dev.specs.declared.image_fault.ImageFault.{ImageFault}
use Rattle.flash_dev.specs.Geometry.{geometry_of}
use Rattle.varsvc.proofs.Volumes.{fault_text, is_accepted}
use Rattle.varsvc.proofs.image.image_plan.plan_content.Goals as goal

-- what the first bytes say is said of the content's
of_content : (found : Result Geometry ImageFault) (content lent : List ℕ) → lent ≡ content → found ≡ geometry_of (take 100 lent)
    → found ≡ geometry_of (take 100 content)
of_content found content lent same is = is ∙ ap (λ (xs : List ℕ). geometry_of (take 100 xs)) same

pub slice_bounds-geometry_of-end : goal.slice_bounds-geometry_of-end
slice_bounds-geometry_of-end c = sym (length-take-le 100 c.as_slice.result.now (omega (arith, c.as_slice.ensures.whole)))

pub geometry_of-requires : goal.geometry_of-requires
geometry_of-requires c = length-take-le 100 c.as_slice.result.now (omega (arith, c.as_slice.ensures.whole))

pub plan_kept-requires : goal.plan_kept-requires
plan_kept-requires c = record { accepted = is_accepted c.geometry_of.result _ _ (of_content c.geometry_of.result c.args.content c.as_slice.result.now c.as_slice.ensures.bytes c.geometry_of.ensures.geometry) c.in-Ok.is }

pub returns-in-Err-clause-text : goal.returns-in-Err-clause-text
returns-in-Err-clause-text c = λ told read.
    fault_text c.args.what c.args.kept c.args.content c.in-Err.fault told c.plan_fault.result (λ e. c.geometry_of.ensures.device (c.in-Err.is ∙ ap Err e))
    (sym (of_content c.geometry_of.result c.args.content c.as_slice.result.now c.as_slice.ensures.bytes c.geometry_of.ensures.geometry) ∙ c.in-Err.is) read c.plan_fault.ensures
