use Rattle.std.proofs.Common.{◌≡◌, ◌+◌, ◌≤◌, ℕ, ap, sym, subst, ◌∙◌, arith}
use Rattle.std.specs.Ordering.{nat_cmp, ord_min}
use Rattle.mm_writer.proofs.RoomsAfter.{put_totals, sum, sum_small}
use Rattle.mm_writer.proofs.Views.{lesser_is}
use Rattle.mm_writer.specs.declared.edit.Edit.{Edit}
use Rattle.mm_writer.specs.declared.edit.Edit.TheVariants.{Put}
use Rattle.mm_writer.specs.Edit.{MayEdit, edit_key, edited}
use Rattle.mm_writer.specs.Stands.{IsTotalWithout}
use Rattle.set_rules.specs.declared.room_totals.RoomTotals.{RoomTotals}
use Rattle.set_rules.specs.RoomTotals.{IsTotalOf, total_of, totals_with}
use Rattle.var_types.specs.Attributes.{store_of}
use Rattle.var_types.specs.declared.store.Store.{Store}
use Rattle.mm_writer.proofs.totals.totals_after.Goals as goal

pub returns-in-Put : goal.returns-in-Put
returns-in-Put c = λ state store ordered others may.
    let rest = c.args.rest in
    let new = c.in-Put.new in
    subst (λ (edit : Edit). IsTotalWithout rest (edit_key edit) state.variables → MayEdit state store edit → IsTotalOf c.with.result (edited edit state.variables))
    (sym c.in-Put.is)
    (λ others may.
    let total : c.from.result ≡ total_of rest (store_of new.attributes) = c.from.ensures ∙ c.of.ensures ∙ ap (total_of rest) c.of-store.ensures in
    let is : c.from.result + c.room_of.result ≡ sum rest new state store others may = omega (arith, total, c.room_of.ensures.is) in
    let small = subst (λ (n : ℕ). n ≤ 4294967295) (sym is) (sum_small rest new state store others may) in
    let least =
    c.min-sum.ensures ∙ ap (ord_min nat_cmp (c.from.result + c.room_of.result)) c.from-in-Put.ensures
    ∙ lesser_is (c.from.result + c.room_of.result) 4294967295 small ∙ is in
    subst (λ (t : RoomTotals). IsTotalOf t (edited (Put new) state.variables))
    (sym
    (c.with.ensures ∙ ap (totals_with rest c.of-store.result) least
    ∙ ap (λ (s : Store). totals_with rest s (sum rest new state store others may)) c.of-store.ensures))
    (put_totals rest new state store others may ordered))
    others may
