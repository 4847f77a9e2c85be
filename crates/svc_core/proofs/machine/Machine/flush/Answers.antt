use Rattle.std.proofs.Common.{sym, subst, ap, ◌∙◌, ℕ, length}
use Rattle.svc_core.specs.declared.machine.Machine.{Machine}
use Rattle.svc_core.specs.declared.point.Point.TheVariants as point
use Rattle.svc_core.specs.Machine.{IsStep, merged_machine, put_back}
use Rattle.svc_core.proofs.Steps.{is_flush}
use Rattle.svc_core.proofs.machine.Machine.flush.Goals as goal

pub returns : goal.returns
returns c =
    let m = c.args.self.now in
    let next = point.FlushSwapHeld c.args.place c.args.reply in
    subst (IsStep m c.args.p (point.Flush c.args.place c.args.reply))
    (sym (c.put.ensures
    ∙ ap (λ (k : Machine). put_back (record k { made = c.made-self.result }) c.args.p next) c.take_ranges.ensures
    ∙ ap (λ (n : ℕ). put_back (record (merged_machine m) { made = n }) c.args.p next)
    (c.made-self.ensures.made ∙ ap (λ (k : Machine). length k.progress.log) c.take_ranges.ensures ∙ c.requires.clear)))
    (is_flush m c.args.p c.args.place c.args.reply)
