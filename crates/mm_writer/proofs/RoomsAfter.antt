-- The room totals after an edit are those of the edited variables.
use Rattle.std.proofs.Common.{◌+◌, ◌≤◌, sym, subst, ℕ, arith}
use Rattle.std.specs.BTreeMap.{is_at}
use Rattle.std.specs.Map.{remove_entry}
use Rattle.mm_writer.proofs.Views.{limit_small}
use Rattle.mm_writer.specs.declared.edit.Edit.TheVariants.{Put}
use Rattle.mm_writer.specs.Edit.{MayPutIn, edited}
use Rattle.mm_writer.specs.Stands.{IsTotalWithout}
use Rattle.set_rules.proofs.Rooms.{IsTotalOf-put}
use Rattle.set_rules.specs.declared.room_totals.RoomTotals.{RoomTotals}
use Rattle.set_rules.specs.RoomTotals.{IsTotalOf, total_of, totals_with}
use Rattle.var_region.specs.declared.new_record.NewRecord.{NewRecord}
use Rattle.var_region.specs.NewRecord.{new_key, new_variable}
use Rattle.var_types.specs.Attributes.{store_of}
use Rattle.var_types.specs.declared.store.Store.{Store}
use Rattle.var_types.specs.Key.{key_cmp}
use Rattle.var_types.specs.Room.{room_limit, room_needed, room_of, room_used}
use Rattle.var_types.specs.State.{State}
use Rattle.var_types.specs.TwoRegionsLaws.{AreOrdered}

module _ (rest : RoomTotals) (new : NewRecord) (state : State) (store : Store) (others : IsTotalWithout rest (new_key new) state.variables)
    (may : MayPutIn state store new) where
  -- the total of the store after a put
  abbrev pub sum : ℕ
  sum = total_of rest (store_of new.attributes) + room_of (new_key new) (new_variable new)

  -- a put has room
  put_fits : sum ≤ room_limit (store_of new.attributes)
  unfolding room_needed
  put_fits =
      let key = new_key new in
      let room =
      subst (λ (s : Store). room_used (store_of new.attributes) (remove_entry (is_at (key_cmp key)) state.variables) + room_of key (new_variable new) ≤ room_limit s)
      (sym may.in_store) may.room in
      omega (arith, others.summed (store_of new.attributes), room)

  -- and its total is not large
  pub sum_small : sum ≤ 4294967295
  sum_small = omega (arith, put_fits, limit_small (store_of new.attributes))

  -- the totals after a put
  pub put_totals : AreOrdered state.variables → IsTotalOf (totals_with rest (store_of new.attributes) sum) (edited (Put new) state.variables)
  put_totals ordered = IsTotalOf-put rest (new_key new) (new_variable new) state.variables ordered others put_fits
