use Rattle.std.proofs.Common.{◌≤◌, ap, subst, sym, ◌∙◌}
use Rattle.std.specs.BTreeMap.{is_at}
use Rattle.std.specs.Map.{lookup}
use Rattle.std.specs.Option.{option_copied}
use Rattle.std.specs.Prelude.{Option, IfSome}
use Rattle.set_rules.proofs.Rooms.{all_within, IsTotalOf-rest}
use Rattle.policy_table.specs.PolicyState.{policies_of}
use Rattle.set_rules.specs.RoomTotals.{total_of}
use Rattle.var_types.specs.Attributes.{store_of}
use Rattle.var_types.specs.Key.{key_cmp}
use Rattle.var_types.specs.Room.{room_of}
use Rattle.var_types.specs.State.{State}
use Rattle.var_types.specs.declared.variable.Variable.{Variable}
use Rattle.svc_plain.proofs.plain.Plain.decision.Goals as goal

pub totals_without-requires : goal.totals_without-requires
totals_without-requires c =
    let totals = c.self.inside.totals in
    let P : Option Variable → Type 0 = λ o. IfSome o (λ v. room_of c.args.key.now v ≤ total_of totals (store_of v.attributes)) in
    subst P (sym c.get-found.ensures.value) (all_within totals c.self.inside.variables.entries c.self.invariant c.args.key.now)

pub returns : goal.returns
returns c =
    let entries = ap (λ (s : State). s.variables) c.self.view_is in
    c.decide.ensures c.args.self.now
    (record {
      found = c.get-found.ensures.value ∙ ap (lookup (is_at (key_cmp c.args.key.now))) entries;
      rest =
          IsTotalOf-rest c.self.inside.totals c.totals_without.result c.args.key.now (option_copied c.get-found.result)
          c.self.inside.variables.entries c.args.self.now.variables c.self.invariant c.totals_without.ensures c.get-found.ensures.value entries;
      variables = entries;
      policies = ap policies_of (sym c.self.view_is);
      runtime = ap (λ (s : State). s.runtime) c.self.view_is;
      made = ap (λ (s : State). s.made) c.self.view_is;
      limit = ap (λ (s : State). s.limit) c.self.view_is;
    })
