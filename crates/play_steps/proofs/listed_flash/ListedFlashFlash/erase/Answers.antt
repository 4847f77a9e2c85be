use Rattle.std.proofs.Common.{◌≡◌, length, sym, ap, subst, ◌∙◌, arith}
use Rattle.flash_dev.specs.Rules.{IsEraseLeft}
use Rattle.svc_core.specs.declared.flash_step.FlashStep.TheVariants.{Erase}
use Rattle.svc_core.specs.FlashSteps.{StepFits, after_step}
use Rattle.var_types.specs.Layout.{image_size}
use Rattle.play_steps.proofs.Listed.{bytes_done, listed_more, size_done, stays_done}
use Rattle.play_steps.specs.ListedFlash.{ListedState, StaysListed, bytes_of}
use Rattle.play_steps.proofs.listed_flash.ListedFlashFlash.erase.Goals as goal

pub invariant_of-self : goal.invariant_of-self
invariant_of-self c =
    let size : length (bytes_of c.args.self.now) ≡ image_size =
    ap (λ (f : ListedState). length (bytes_of f)) (sym c.self.view_is) ∙ ap length (sym c.self.invariant.is) ∙ c.self.invariant.size in
    let fits : StepFits (Erase c.args.block) = omega (arith, c.requires, size) in
    listed_more c.self.inside.bytes.items c.self.inside.first.value.items c.erase_held.new.held.items c.self.inside.steps.items c.list_erase.new.steps.items c.self.inside.faults (Erase c.args.block) c.self.invariant c.erase_held.ensures.changed c.in-Ok.ensures.done fits c.erase_held.ensures.size

pub returns-in-Ok-clause-erased : goal.returns-in-Ok-clause-erased
returns-in-Ok-clause-erased c =
    bytes_done c.self.inside.bytes.items c.self.inside.first.value.items c.erase_held.new.held.items c.self.inside.steps.items c.list_erase.new.steps.items c.self.inside.faults (Erase c.args.block) c.self.invariant c.erase_held.ensures.changed c.in-Ok.ensures.done ∙ ap (λ (f : ListedState). after_step (Erase c.args.block) (bytes_of f)) c.self.view_is

pub returns-in-Ok-clause-size : goal.returns-in-Ok-clause-size
returns-in-Ok-clause-size c =
    size_done c.self.inside.bytes.items c.self.inside.first.value.items c.erase_held.new.held.items c.self.inside.steps.items c.list_erase.new.steps.items c.self.inside.faults (Erase c.args.block) c.self.invariant c.erase_held.ensures.changed c.in-Ok.ensures.done c.erase_held.ensures.size ∙ ap (λ (f : ListedState). length (bytes_of f)) c.self.view_is

pub returns-in-Ok-clause-at_any_moment : goal.returns-in-Ok-clause-at_any_moment
returns-in-Ok-clause-at_any_moment c =
    subst
    (λ (f : ListedState). StaysListed (IsEraseLeft c.args.block) f (record { first = c.self.inside.first.value.items; steps = c.list_erase.new.steps.items; faults = c.self.inside.faults }))
    c.self.view_is
    (stays_done c.self.inside.bytes.items c.self.inside.first.value.items c.erase_held.new.held.items c.self.inside.steps.items c.list_erase.new.steps.items c.self.inside.faults (Erase c.args.block) c.self.invariant c.erase_held.ensures.changed c.in-Ok.ensures.done c.erase_held.ensures.left)
