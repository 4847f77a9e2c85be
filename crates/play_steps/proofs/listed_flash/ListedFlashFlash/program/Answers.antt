use Rattle.std.proofs.Common.{◌≡◌, length, sym, ap, subst, ◌∙◌, arith}
use Rattle.flash_dev.proofs.Left.{none_leaves}
use Rattle.flash_dev.specs.Rules.{IsProgramLeft}
use Rattle.svc_core.specs.declared.flash_step.FlashStep.TheVariants.{Program}
use Rattle.svc_core.specs.FlashSteps.{StepFits, after_step}
use Rattle.var_types.specs.Layout.{image_size}
use Rattle.play_steps.proofs.Listed.{bytes_done, listed_more, size_done, stays_done, stays_unlisted}
use Rattle.play_steps.specs.ListedFlash.{ListedState, StaysListed, bytes_of}
use Rattle.play_steps.proofs.listed_flash.ListedFlashFlash.program.Goals as goal

pub invariant_of-self : goal.invariant_of-self
invariant_of-self c =
    let size : length (bytes_of c.args.self.now) ≡ image_size =
    ap (λ (f : ListedState). length (bytes_of f)) (sym c.self.view_is) ∙ ap length (sym c.self.invariant.is) ∙ c.self.invariant.size in
    let fits : StepFits (Program c.args.at c.args.bytes.now) = omega (arith, c.requires, size) in
    listed_more c.self.inside.bytes.items c.self.inside.first.value.items c.program_held.new.held.items c.self.inside.steps.items c.list_program.new.steps.items c.self.inside.faults (Program c.args.at c.args.bytes.now) c.self.invariant c.program_held.ensures.changed c.in-Ok.ensures.done fits c.program_held.ensures.size

pub returns-in-Ok-clause-programmed : goal.returns-in-Ok-clause-programmed
returns-in-Ok-clause-programmed c =
    bytes_done c.self.inside.bytes.items c.self.inside.first.value.items c.program_held.new.held.items c.self.inside.steps.items c.list_program.new.steps.items c.self.inside.faults (Program c.args.at c.args.bytes.now) c.self.invariant c.program_held.ensures.changed c.in-Ok.ensures.done ∙ ap (λ (f : ListedState). after_step (Program c.args.at c.args.bytes.now) (bytes_of f)) c.self.view_is

pub returns-in-Ok-clause-size : goal.returns-in-Ok-clause-size
returns-in-Ok-clause-size c =
    size_done c.self.inside.bytes.items c.self.inside.first.value.items c.program_held.new.held.items c.self.inside.steps.items c.list_program.new.steps.items c.self.inside.faults (Program c.args.at c.args.bytes.now) c.self.invariant c.program_held.ensures.changed c.in-Ok.ensures.done c.program_held.ensures.size ∙ ap (λ (f : ListedState). length (bytes_of f)) c.self.view_is

pub returns-in-Ok-clause-at_any_moment : goal.returns-in-Ok-clause-at_any_moment
returns-in-Ok-clause-at_any_moment c =
    subst
    (λ (f : ListedState). StaysListed (IsProgramLeft c.args.at c.args.bytes.now) f (record { first = c.self.inside.first.value.items; steps = c.list_program.new.steps.items; faults = c.self.inside.faults }))
    c.self.view_is
    (stays_done c.self.inside.bytes.items c.self.inside.first.value.items c.program_held.new.held.items c.self.inside.steps.items c.list_program.new.steps.items c.self.inside.faults (Program c.args.at c.args.bytes.now) c.self.invariant c.program_held.ensures.changed c.in-Ok.ensures.done c.program_held.ensures.left)

pub returns-in-Err-clause-at_any_moment : goal.returns-in-Err-clause-at_any_moment
returns-in-Err-clause-at_any_moment c =
    let at = c.args.at in
    let bytes = c.args.bytes.now in
    subst
    (λ (f : ListedState). StaysListed (IsProgramLeft at bytes) f (record { first = c.self.inside.first.value.items; steps = c.list_program.new.steps.items; faults = c.saturating_add-self-inside.result }))
    c.self.view_is
    (stays_unlisted (IsProgramLeft at bytes) c.self.inside.first.value.items c.self.inside.steps.items c.list_program.new.steps.items c.self.inside.faults
    c.saturating_add-self-inside.result c.in-Err.ensures.fails (none_leaves at bytes _))
