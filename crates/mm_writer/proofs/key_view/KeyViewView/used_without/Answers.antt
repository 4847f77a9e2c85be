use Rattle.std.proofs.Common.{◌≤◌, ap, refl, ◌∙◌, arith}
use Rattle.std.specs.BTreeMap.{is_at}
use Rattle.std.specs.Map.{remove_entry}
use Rattle.mm_writer.proofs.Views.{lesser_is, limit_small, others_of}
use Rattle.var_types.specs.declared.store.Store.{Store}
use Rattle.var_types.specs.Key.{key_cmp, key_of}
use Rattle.var_types.specs.Room.{room_used}
use Rattle.mm_writer.proofs.key_view.KeyViewView.used_without.Goals as goal

pub returns-clause-used : goal.returns-clause-used
returns-clause-used c = λ state stands.
    let key = key_of c.args._guid.now c.args._name.now in
    let store = c.store_if.result in
    let others = others_of c.args.self.now.view state stands c.args.self.now key refl c.requires in
    let small : c.of.result ≤ 1000000 = omega (arith, c.of.ensures, others.within store, limit_small store) in
    c.min.ensures ∙ lesser_is c.of.result 1000000 small ∙ c.of.ensures ∙ others.summed store
    ∙ ap (λ (s : Store). room_used s (remove_entry (is_at (key_cmp key)) state.variables)) c.store_if.ensures
