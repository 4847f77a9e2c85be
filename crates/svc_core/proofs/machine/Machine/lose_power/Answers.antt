use Rattle.std.proofs.Common.{sym, ap, ◌∙◌}
use Rattle.std.specs.Option.{option_copied}
use Rattle.svc_core.proofs.Tears.{no_step, nobody, one_step, step_within}
use Rattle.svc_core.proofs.machine.Machine.lose_power.Goals as goal

pub tear-requires : goal.tear-requires
tear-requires c =
    step_within c.args.self.now c.args.torn c.requires c.point.result.now c.in-Some.step.now c.if-self-eq0.false c.point.ensures
    (sym c.step_at.ensures ∙ ap option_copied c.in-Some.is)

pub returns-in-Some : goal.returns-in-Some
returns-in-Some c =
    one_step c.args.self.now c.args.torn c.point.result.now c.in-Some.step.now c.tear.new.self c.if-self-eq0.false c.point.ensures
    (sym c.step_at.ensures ∙ ap option_copied c.in-Some.is) c.tear.ensures.is c.tear.ensures.left

pub returns-in-None : goal.returns-in-None
returns-in-None c =
    no_step c.args.self.now c.args.torn c.point.result.now c.if-self-eq0.false c.point.ensures
    (sym c.step_at.ensures ∙ ap option_copied c.in-None.is)

pub returns-then-self-eq0 : goal.returns-then-self-eq0
returns-then-self-eq0 c = nobody c.args.self.now c.args.torn c.if-self-eq0.true
