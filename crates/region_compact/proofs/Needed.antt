-- The size of a compacted non-volatile region with a variable put is the room that the set rule needs.
use Rattle.std.proofs.Common.{◌≡◌, ◌+◌, Bool, true, false, cond, List, [], ◌∷◌, refl, sym, ap, ◌∙◌, arith, sum_by, Option, Some, None}
use Rattle.std.proofs.lemmas.Cmp.{eq_by_cmp_equiv}
use Rattle.std.proofs.lemmas.List.Sums.{sum_by-cons}
use Rattle.std.proofs.lemmas.Map.Entries.{lookup-filter-values, option_filter}
use Rattle.std.proofs.lemmas.Map.Keys.{IsDistinct-from_sorted}
use Rattle.std.specs.BTreeMap.{is_at}
use Rattle.std.specs.Cmp.{Equal-is}
use Rattle.std.specs.List.{filter}
use Rattle.std.specs.Map.{keys_of, lookup, remove_entry}
use Rattle.var_region.specs.NewRecord.{new_key, new_variable}
use Rattle.var_types.proofs.Keys.{key_cmp_total, same_key}
use Rattle.var_types.proofs.Maps.{map_exact}
use Rattle.var_types.proofs.Sums.{sum_by-insert_entry, sum_by-remove_entry, weight_at}
use Rattle.var_types.specs.Attributes.{has, non_volatile_bit, store_of}
use Rattle.var_types.specs.declared.key.Key.{Key}
use Rattle.var_types.specs.declared.store.Store.TheVariants.{NonVolatile, Volatile}
use Rattle.var_types.specs.declared.variable.Variable.{Variable}
use Rattle.var_types.specs.Key.{key_cmp}
use Rattle.var_types.specs.Region.{region_lives, region_map}
use Rattle.var_types.specs.Room.{in_store, room_in, room_needed, room_of, room_used}
use Rattle.region_compact.specs.declared.replace.Replace.TheVariants.{Put}
use Rattle.region_compact.specs.Laws.{SizesAreTheRoomNeeded, is_non_volatile}
use Rattle.region_compact.proofs.MapAfter.{SizesAreTheRoom-all, entry_room}

-- the room of an entry in the non-volatile store
room_is : (entry : Key × Variable) → room_in NonVolatile entry ≡ cond (is_non_volatile entry) (entry_room entry) 0
unfolding room_in
room_is entry = by (is_non_volatile entry)
  where
    by : (nv : Bool) → in_store NonVolatile (cond nv NonVolatile Volatile) (entry_room entry) ≡ cond nv (entry_room entry) 0
    by true = refl
    by false = refl

-- the room of the non-volatile entries
rooms_filtered : (es : List (Key × Variable)) → sum_by entry_room (filter is_non_volatile es) ≡ sum_by (room_in NonVolatile) es
rooms_filtered [] = refl
rooms_filtered (e ∷ es) = by (is_non_volatile e) refl (rooms_filtered es)
  where
    by : (nv : Bool) → is_non_volatile e ≡ nv → sum_by entry_room (filter is_non_volatile es) ≡ sum_by (room_in NonVolatile) es
        → sum_by entry_room (cond nv (e ∷ filter is_non_volatile es) (filter is_non_volatile es)) ≡ sum_by (room_in NonVolatile) (e ∷ es)
    by true n rest =
        let room : room_in NonVolatile e ≡ entry_room e = room_is e ∙ ap (λ b. cond b (entry_room e) 0) n in
        omega (arith, sum_by-cons entry_room e (filter is_non_volatile es), sum_by-cons (room_in NonVolatile) e es)
    by false n rest =
        let room : room_in NonVolatile e ≡ 0 = room_is e ∙ ap (λ b. cond b (entry_room e) 0) n in
        omega (arith, sum_by-cons (room_in NonVolatile) e es)

-- what is found at a key weighs the same, where the store's entries alone are looked at
weight_filtered : (key : Key) (found : Option Variable)
    → weight_at entry_room key (option_filter (λ v. has v.attributes non_volatile_bit) found) ≡ weight_at (room_in NonVolatile) key found
weight_filtered key None = refl
weight_filtered key (Some v) = by (has v.attributes non_volatile_bit) refl
  where
    by : (nv : Bool) → has v.attributes non_volatile_bit ≡ nv → weight_at entry_room key (cond nv (Some v) None) ≡ room_in NonVolatile (key, v)
    by true n = sym (room_is (key, v) ∙ ap (λ b. cond b (entry_room (key, v)) 0) n)
    by false n = sym (room_is (key, v) ∙ ap (λ b. cond b (entry_room (key, v)) 0) n)

pub SizesAreTheRoomNeeded-all : SizesAreTheRoomNeeded
unfolding room_needed region_map
SizesAreTheRoomNeeded-all state region new is nv =
    let key = new_key new in
    let variable = new_variable new in
    let test = is_at (key_cmp key) in
    let vars = state.variables in
    let es = region_map region in
    let one : (q : Key) → test q ≡ true → q ≡ key = λ q t. sym (same_key key q ((Equal-is (key_cmp key q)).0 t)) in
    let store : store_of variable.attributes ≡ NonVolatile = ap (λ b. cond b NonVolatile Volatile) nv in
    let put = sum_by-insert_entry entry_room key_cmp_total same_key key variable es (map_exact (region_lives region)).ordered in
    let here = sum_by-remove_entry entry_room test key one es in
    let there = sum_by-remove_entry (room_in NonVolatile) test key one vars in
    let all : sum_by entry_room es ≡ sum_by (room_in NonVolatile) vars = ap (sum_by entry_room) is.held ∙ rooms_filtered vars in
    let found : lookup test es ≡ option_filter (λ v. has v.attributes non_volatile_bit) (lookup test vars) =
    ap (lookup test) is.held
    ∙ lookup-filter-values (eq_by_cmp_equiv key_cmp_total) (λ (v : Variable). has v.attributes non_volatile_bit) key vars (IsDistinct-from_sorted key_cmp (keys_of vars) is.ordered) in
    let weight : weight_at entry_room key (lookup test es) ≡ weight_at (room_in NonVolatile) key (lookup test vars) =
    ap (weight_at entry_room key) found ∙ weight_filtered key (lookup test vars) in
    let others : sum_by entry_room (remove_entry test es) ≡ room_used NonVolatile (remove_entry test vars) = omega arith in
    SizesAreTheRoom-all region (Put new)
    ∙ put
    ∙ ap (λ n. n + room_of key variable) others
    ∙ ap (λ s. room_used s (remove_entry test vars) + room_of key variable) (sym store)
