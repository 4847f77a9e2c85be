use Rattle.std.proofs.Common.{◌≤◌, List, ap, subst, sym, refl, ◌∙◌}
use Rattle.std.specs.BTreeMap.{is_at}
use Rattle.std.specs.Map.{lookup}
use Rattle.std.specs.Option.{option_copied}
use Rattle.std.specs.Prelude.{Option, IfSome}
use Rattle.svc_plain.proofs.OnOks.{on_ok}
use Rattle.set_rules.proofs.Rooms.{all_within, counts_found, found_put, IsTotalOf-found, IsTotalOf-rest}
use Rattle.set_rules.specs.RoomTotals.{HasRoom, total_of}
use Rattle.svc_plain.specs.Written.{written}
use Rattle.var_types.specs.Attributes.{store_of}
use Rattle.var_types.specs.Key.{key_cmp}
use Rattle.var_types.specs.Room.{room_of}
use Rattle.var_types.specs.State.{State}
use Rattle.var_types.specs.declared.key.Key.{Key}
use Rattle.var_types.specs.declared.variable.Variable.{Variable}
use Rattle.svc_plain.proofs.plain.Plain.written.Goals as goal

pub totals_without-rest-requires : goal.totals_without-rest-requires
totals_without-rest-requires c =
    let totals = c.self.inside.totals in
    let P : Option Variable → Type 0 = λ o. IfSome o (λ v. room_of c.args.key.now v ≤ total_of totals (store_of v.attributes)) in
    subst P (sym c.get.ensures.value) (all_within totals c.self.inside.variables.entries c.self.invariant c.args.key.now)

pub totals_with-self-inside-requires : goal.totals_with-self-inside-requires
totals_with-self-inside-requires c =
    let key = c.args.key.now in
    let es = c.self.inside.variables.entries in
    let made : List (Key × Variable) → Variable = λ es. written c.args.call.now (lookup (is_at (key_cmp key)) es) c.args.write.now in
    let put = on_ok c.put.result _ c.if-is_err.ensures.value c.put.ensures.ok in
    let room =
    subst (λ (es : List (Key × Variable)). HasRoom es key (made es)) (sym (ap (λ (s : State). s.variables) c.self.view_is)) c.requires.room in
    let rest =
    IsTotalOf-rest c.self.inside.totals c.totals_without-rest.result key (option_copied c.get.result) es es c.self.invariant
    c.totals_without-rest.ensures c.get.ensures.value refl in
    counts_found c.totals_without-rest.result key (made es) es rest room (option_copied c.get-2.result)
    (c.get-2.ensures.value ∙ ap (lookup (is_at (key_cmp key))) put ∙ found_put es key (made es))

pub invariant_of-self-2 : goal.invariant_of-self-2
invariant_of-self-2 c =
    let key = c.args.key.now in
    let es = c.self.inside.variables.entries in
    let made : List (Key × Variable) → Variable = λ es. written c.args.call.now (lookup (is_at (key_cmp key)) es) c.args.write.now in
    let put = on_ok c.put.result _ c.if-is_err.ensures.value c.put.ensures.ok in
    let ordered = on_ok c.put.result _ c.if-is_err.ensures.value c.put.ensures.ordered in
    let room =
    subst (λ (es : List (Key × Variable)). HasRoom es key (made es)) (sym (ap (λ (s : State). s.variables) c.self.view_is)) c.requires.room in
    let rest =
    IsTotalOf-rest c.self.inside.totals c.totals_without-rest.result key (option_copied c.get.result) es es c.self.invariant
    c.totals_without-rest.ensures c.get.ensures.value refl in
    IsTotalOf-found c.totals_without-rest.result key (made es) es rest room c.totals_with-self-inside.result (option_copied c.get-2.result)
    c.put.new.variables.entries ordered put (c.get-2.ensures.value ∙ ap (lookup (is_at (key_cmp key))) put ∙ found_put es key (made es))
    c.totals_with-self-inside.ensures
