-- What the set rule allows can be done in the stores' bytes.
use Rattle.std.proofs.Common.{◌≡◌, ℕ, ◌-◌, cond, length, Option, Some, None, IsSome, refl, sym, ap, subst, ◌∙◌, arith}
use Rattle.std.proofs.lemmas.Map.Entries.{option_filter}
use Rattle.std.specs.BTreeMap.{is_at}
use Rattle.std.specs.Map.{lookup}
use Rattle.std.specs.Prelude.{IsSomeAnd}
use Rattle.mm_writer.proofs.Edits.{kept_in, kept_there, part_picked}
use Rattle.mm_writer.proofs.Filtered.{at_picked}
use Rattle.mm_writer.specs.declared.edit.Edit.{Edit}
use Rattle.mm_writer.specs.declared.edit.Edit.TheVariants.{Put, Remove}
use Rattle.mm_writer.specs.Edit.{CanEdit, MayEdit, MayPutIn}
use Rattle.nv_store.specs.Rooms.{IsNoRoom}
use Rattle.var_region.specs.declared.new_record.NewRecord.{NewRecord}
use Rattle.var_types.specs.Attributes.{store_of}
use Rattle.var_types.specs.declared.key.Key.{Key}
use Rattle.var_types.specs.declared.store.Store.{Store}
use Rattle.var_types.specs.declared.store.Store.TheVariants.{NonVolatile, Volatile}
use Rattle.var_types.specs.declared.variable.Variable.{Variable}
use Rattle.var_types.specs.Key.{key_cmp, key_of}
use Rattle.var_types.specs.Room.{room_limit}
use Rattle.var_types.specs.State.{State, stored_at}
use Rattle.var_types.specs.Stores.{HaveSizes, Means, Stores, bytes_in, first_offset, map_in}
use Rattle.var_types.specs.TwoRegionsLaws.{AreOrdered}

-- a store has the room of its limit
room_is : (stores : Stores) (store : Store) → HaveSizes stores → length (bytes_in stores store) - first_offset store ≡ room_limit store
room_is stores NonVolatile sizes = omega (arith, sizes.non_volatile)
room_is stores Volatile sizes = omega (arith, sizes.volatile)

module _ (stores : Stores) (state : State) (ordered : AreOrdered state.variables) (means : Means stores state) (sizes : HaveSizes stores) (store : Store) where
  -- what has room by the rule has room in the store
  has_room : (new : NewRecord) → MayPutIn state store new → (need have : ℕ) → IsNoRoom store (bytes_in stores store) new need have → ⊥
  has_room new may need have none =
      omega (arith, none.need state (record { ordered = ordered; held = means.each store }), none.have, none.above, may.room, room_is stores store sizes)

  -- what is stored in the store is found there
  found_there : (key : Key) (found : Option Variable) → stored_at state key ≡ found → IsSomeAnd found (λ variable. store_of variable.attributes ≡ store)
      → IsSome (lookup (is_at (key_cmp key)) (map_in store (bytes_in stores store)))
  found_there key None is there = absurd there
  found_there key (Some variable) is there =
      let found : lookup (is_at (key_cmp key)) (map_in store (bytes_in stores store)) ≡ Some variable =
      ap (lookup (is_at (key_cmp key))) (means.each store ∙ part_picked store state.variables)
      ∙ at_picked (kept_in store) state.variables ordered key
      ∙ ap (option_filter (kept_in store)) is
      ∙ ap (λ b. cond b (Some variable) None) (kept_there store variable there) in
      subst IsSome (sym found) refl

  -- an edit that the rule allows can be made
  pub can_edit : (edit : Edit) → MayEdit state store edit → CanEdit store (bytes_in stores store) edit
  can_edit (Put new) may = record { can = may.can; of_store = may.in_store; room = has_room new may }
  can_edit (Remove guid name) may = found_there (key_of guid name.now) (stored_at state (key_of guid name.now)) refl may
