use Rattle.std.proofs.Common.{sym, ap, ◌∙◌}
use Rattle.std.specs.BTreeMap.Range.{entries_between}
use Rattle.std.specs.List.{find}
use Rattle.std.specs.Option.{option_copied}
use Rattle.std.specs.declared.ops.Bound.{Bound}
use Rattle.std.specs.declared.ops.Bound.TheVariants.{Unbounded}
use Rattle.svc_plain.proofs.Nexts.{find_above_range}
use Rattle.var_types.specs.Key.{key_cmp}
use Rattle.var_types.specs.Least.{is_shown}
use Rattle.var_types.specs.declared.key.Key.{Key}
use Rattle.var_types.specs.declared.variable.Variable.{Variable}
use Rattle.svc_plain.proofs.next.key_above.Goals as goal

pub loop-key-init : goal.loop-key-init
loop-key-init c =
    let es = c.args.variables.now.entries in
    let from =
    c.into_iter-key-iterator.ensures.into_iter_gives ∙ c.range-key-items.ensures.between tt
    ∙ ap (λ (b : Bound Key). entries_between key_cmp b Unbounded es) c.start_above.ensures in
    ap (find (λ (e : Key × Variable). is_shown c.args.runtime e.1)) from
    ∙ sym (find_above_range (λ (e : Key × Variable). is_shown c.args.runtime e.1) (option_copied c.args.bound) es)
