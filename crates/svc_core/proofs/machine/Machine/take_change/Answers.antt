use Rattle.std.proofs.Common.{sym, subst, ◌∙◌, []}
use Rattle.svc_core.specs.declared.point.Point.TheVariants as point
use Rattle.svc_core.specs.Machine.{IsStep}
use Rattle.svc_core.proofs.Steps.{changed_path, is_take_change}
use Rattle.svc_core.proofs.machine.Machine.take_change.Goals as goal

pub returns : goal.returns
returns c =
    let m = c.args.self.now in
    let same = changed_path m c.args.change c.args.p (point.TryLock c.args.place c.args.reply) c.apply.new.stores c.cover.new.ranges c.push_change.new.self
    c.apply.ensures c.cover.ensures c.push_change.ensures in
    subst (IsStep m c.args.p (point.Write c.args.place c.args.reply [] c.args.change)) (sym (c.put.ensures ∙ same))
    (is_take_change m c.args.p c.args.place c.args.reply c.args.change)
