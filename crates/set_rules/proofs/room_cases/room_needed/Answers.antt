use Rattle.std.proofs.Common.{ap, ◌∙◌}
use Rattle.std.specs.BTreeMap.{is_at}
use Rattle.std.specs.Map.{remove_entry}
use Rattle.set_rules.proofs.Needed.{needed}
use Rattle.set_rules.specs.Seen.{reading, store_if}
use Rattle.var_types.specs.Attributes.{has}
use Rattle.var_types.specs.Key.{key_cmp, key_of}
use Rattle.var_types.specs.Room.{align4, room_used}
use Rattle.set_rules.proofs.room_cases.room_needed.Goals as goal

pub returns : goal.returns
returns g c = λ state is.
    let call = c.args.set.now.call.now in
    let stored = c.has-non_volatile.ensures ∙ ap (λ a. has a 1) c.without_append.ensures in
    let name = c.as_slice-name.ensures.items in
    let used =
    c.used_without-used.ensures.used state is
    ∙ (λ i. room_used (store_if (stored i)) (remove_entry (is_at (key_cmp (key_of call.guid (name i)))) state.variables)) in
    needed state (reading c.args.set.now) c.used_without-used.result c.align4.result used (c.align4.ensures ∙ ap align4 c.made_size.ensures)
