use Rattle.std.proofs.Common.{◌≤◌, List, subst, sym, refl}
use Rattle.std.specs.Option.{option_copied}
use Rattle.std.specs.Prelude.{Option, IfSome}
use Rattle.set_rules.proofs.Rooms.{all_within, IsTotalOf-rest}
use Rattle.set_rules.specs.RoomTotals.{IsTotalOf, total_of}
use Rattle.var_types.specs.Attributes.{store_of}
use Rattle.var_types.specs.Room.{room_of}
use Rattle.var_types.specs.declared.key.Key.{Key}
use Rattle.var_types.specs.declared.variable.Variable.{Variable}
use Rattle.svc_plain.proofs.plain.Plain.removed.Goals as goal

pub totals_without-rest-requires : goal.totals_without-rest-requires
totals_without-rest-requires c =
    let totals = c.self.inside.totals in
    let P : Option Variable → Type 0 = λ o. IfSome o (λ v. room_of c.args.key.now v ≤ total_of totals (store_of v.attributes)) in
    subst P (sym c.get.ensures.value) (all_within totals c.self.inside.variables.entries c.self.invariant c.args.key.now)

pub invariant_of-self : goal.invariant_of-self
invariant_of-self c =
    let es = c.self.inside.variables.entries in
    subst (λ (es : List (Key × Variable)). IsTotalOf c.totals_without-rest.result es) (sym c.remove.ensures.entries)
    (IsTotalOf-rest c.self.inside.totals c.totals_without-rest.result c.args.key.now (option_copied c.get.result) es es c.self.invariant
    c.totals_without-rest.ensures c.get.ensures.value refl)
