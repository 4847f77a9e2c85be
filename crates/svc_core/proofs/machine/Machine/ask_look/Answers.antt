use Rattle.std.proofs.Common.{sym, subst, ap, ◌∙◌}
use Rattle.svc_core.specs.declared.buffers.Buffers.{Buffers}
use Rattle.svc_core.specs.declared.point.Point.TheVariants as point
use Rattle.svc_core.specs.Machine.{IsStep, put_back}
use Rattle.std.specs.Option.{option_copied}
use Rattle.svc_core.proofs.Steps.{is_none, is_ask_look}
use Rattle.svc_core.proofs.machine.Machine.ask_look.Goals as goal

pub returns-in_default-clause-ok : goal.returns-in_default-clause-ok
returns-in_default-clause-ok c = is_none c.args.self.now c.args.p (point.AskLook c.args.holder) c.args.self.now (sym c.call.ensures ∙ ap option_copied c.in_default.is)

pub returns-in-Err-clause-err : goal.returns-in-Err-clause-err
returns-in-Err-clause-err c =
    c.put.ensures ∙ ap (λ (b : Buffers). put_back (record c.args.self.now { buffers = b }) c.args.p (point.AskLook c.args.holder)) c.in-Err.ensures.kept

pub returns-in-Ok-clause-ok : goal.returns-in-Ok-clause-ok
returns-in-Ok-clause-ok c =
    let m = c.args.self.now in
    let there = sym c.call.ensures ∙ ap option_copied c.in-Some.is in
    subst (IsStep m c.args.p (point.AskLook c.args.holder))
    (sym c.put-in-Ok.ensures)
    (is_ask_look m c.args.p c.args.holder c.in-Some.call.now c.in-Ok.reply there c.in-Ok.ensures.reply)
