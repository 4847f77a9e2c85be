use Rattle.std.proofs.Common.{sym, subst, ap, ◌∙◌, List, ◌∷◌, drop}
use Rattle.svc_core.specs.declared.point.Point.TheVariants as point
use Rattle.svc_core.specs.Machine.{IsStep}
use Rattle.std.specs.Option.{option_copied}
use Rattle.svc_core.specs.declared.flash_step.FlashStep.{FlashStep}
use Rattle.svc_core.specs.FlashSteps.{after_step}
use Rattle.svc_core.proofs.FlashLists.{first_fits, none_left, some_left}
use Rattle.svc_core.proofs.Steps.{is_flash_step, stepped_path}
use Rattle.svc_core.proofs.machine.Machine.write.Goals as goal

pub take-requires : goal.take-requires
take-requires c = first_fits c.args.steps c.in-Some.step.now (sym c.first.ensures ∙ ap option_copied c.in-Some.is) c.requires.fit

pub returns-in-None : goal.returns-in-None
returns-in-None c =
    let none = none_left c.args.steps (sym c.first.ensures ∙ ap option_copied c.in-None.is) in
    subst (λ (steps : List FlashStep). IsStep c.args.self.now c.args.p (point.Write c.args.place c.args.reply steps c.args.change) c.take_change.new.self)
    (sym none) c.take_change.ensures

pub returns-in-Some : goal.returns-in-Some
returns-in-Some c =
    let m = c.args.self.now in
    let rest = drop 1 c.args.steps in
    let whole = some_left c.args.steps c.in-Some.step.now (sym c.first.ensures ∙ ap option_copied c.in-Some.is) in
    let same = stepped_path m c.args.p c.args.place c.args.reply c.args.change c.take.new.self (after_step c.in-Some.step.now m.flash) c.advance.new.self rest
    c.take.ensures c.advance.ensures in
    subst (λ (steps : List FlashStep). IsStep m c.args.p (point.Write c.args.place c.args.reply steps c.args.change) c.put.new.self) (sym whole)
    (subst (IsStep m c.args.p (point.Write c.args.place c.args.reply (c.in-Some.step.now ∷ rest) c.args.change)) (sym (c.put.ensures ∙ same))
    (is_flash_step m c.args.p c.args.place c.args.reply c.in-Some.step.now rest c.args.change))
