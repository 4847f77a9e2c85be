use Rattle.std.proofs.Common.{sym, subst, ap, ◌∙◌, false}
use Rattle.svc_core.specs.declared.buffers.Buffers.{Buffers}
use Rattle.svc_core.specs.declared.machine.Machine.{Machine}
use Rattle.svc_core.specs.declared.point.Point.TheVariants as point
use Rattle.svc_core.specs.Machine.{IsStep, put_back}
use Rattle.std.specs.Option.{option_copied}
use Rattle.svc_core.proofs.Steps.{is_none, is_merge}
use Rattle.svc_core.proofs.machine.Machine.merge.Goals as goal

pub returns-in_default-clause-ok : goal.returns-in_default-clause-ok
returns-in_default-clause-ok c = is_none c.args.self.now c.args.p (point.Merge c.args.made c.args.held c.args.place) c.args.self.now (sym c.call.ensures ∙ ap option_copied c.in_default.is)

pub returns-in-Err-clause-err : goal.returns-in-Err-clause-err
returns-in-Err-clause-err c =
    c.put.ensures ∙ ap (λ (b : Buffers). put_back (record c.args.self.now { buffers = b }) c.args.p (point.Merge c.args.made c.args.held c.args.place)) c.in-Err.ensures.kept

pub returns-in-Ok-clause-ok : goal.returns-in-Ok-clause-ok
returns-in-Ok-clause-ok c =
    let m = c.args.self.now in
    let there = sym c.call.ensures ∙ ap option_copied c.in-Some.is in
    subst (IsStep m c.args.p (point.Merge c.args.made c.args.held c.args.place))
    (sym (c.put-in-Ok.ensures
    ∙ ap (λ (k : Machine). put_back (record k { home = false; held = c.args.place }) c.args.p
    (point.MergePutCache c.args.made c.args.held c.args.place c.in-Ok.reply)) c.take_ranges.ensures))
    (is_merge m c.args.p c.args.made c.args.held c.args.place c.in-Some.call.now c.in-Ok.reply there c.in-Ok.ensures.reply c.requires.same)
