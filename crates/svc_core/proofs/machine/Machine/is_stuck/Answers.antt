use Rattle.std.proofs.Common.{sym, ap, ◌∙◌}
use Rattle.std.specs.Option.{option_copied}
use Rattle.svc_core.proofs.Stuck.{free_ready, goes_ready, none_still, waits_still}
use Rattle.svc_core.proofs.machine.Machine.is_stuck.Goals as goal

pub returns-in-None-clause-still : goal.returns-in-None-clause-still
returns-in-None-clause-still c = λ e. none_still c.args.self.now c.args.p (sym c.call.ensures ∙ ap option_copied c.in-None.is)

pub returns-then-self-ne0-clause-still : goal.returns-then-self-ne0-clause-still
returns-then-self-ne0-clause-still c = λ e.
    waits_still c.args.self.now c.args.p c.in-Some.call.now (sym c.call.ensures ∙ ap option_copied c.in-Some.is) c.point.result.now c.point.ensures
    c.if-self-ne0.true (c.is_to_enter.ensures.yes e)

pub returns-then-self-ne0-clause-ready : goal.returns-then-self-ne0-clause-ready
returns-then-self-ne0-clause-ready c = λ e.
    goes_ready c.args.self.now c.args.p c.in-Some.call.now (sym c.call.ensures ∙ ap option_copied c.in-Some.is) c.point.result.now c.point.ensures
    (c.is_to_enter.ensures.no e)

pub returns-else-self-ne0-clause-ready : goal.returns-else-self-ne0-clause-ready
returns-else-self-ne0-clause-ready c = λ e.
    free_ready c.args.self.now c.args.p c.in-Some.call.now (sym c.call.ensures ∙ ap option_copied c.in-Some.is) c.if-self-ne0.false
