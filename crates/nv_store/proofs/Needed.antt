-- The size of a store's bytes written anew with a variable put is the room that the set rule needs.
use Rattle.std.proofs.Common.{◌≡◌, ℕ, ◌+◌, Bool, true, false, cond, not, List, [], ◌∷◌, refl, sym, ap, ◌∙◌, arith, sum_by, Option, Some, None}
use Rattle.std.proofs.lemmas.Cmp.{eq_by_cmp_equiv}
use Rattle.std.proofs.lemmas.List.Sums.{sum_by-cons}
use Rattle.std.proofs.lemmas.Map.Entries.{lookup-filter-values, option_filter}
use Rattle.std.proofs.lemmas.Map.Keys.{IsDistinct-from_sorted}
use Rattle.std.specs.BTreeMap.{is_at}
use Rattle.std.specs.Cmp.{Equal-is}
use Rattle.std.specs.List.{filter}
use Rattle.std.specs.Map.{keys_of, lookup, remove_entry}
use Rattle.var_region.specs.declared.new_record.NewRecord.{NewRecord}
use Rattle.var_region.specs.NewRecord.{new_key, new_variable}
use Rattle.var_types.proofs.Keys.{key_cmp_total, same_key}
use Rattle.var_types.proofs.Maps.{map_exact}
use Rattle.var_types.proofs.Sums.{sum_by-insert_entry, sum_by-remove_entry, weight_at}
use Rattle.var_types.specs.Attributes.{has, non_volatile_bit, store_of}
use Rattle.var_types.specs.declared.key.Key.{Key}
use Rattle.var_types.specs.declared.store.Store.{Store}
use Rattle.var_types.specs.declared.store.Store.TheVariants.{NonVolatile, Volatile}
use Rattle.var_types.specs.declared.variable.Variable.{Variable}
use Rattle.var_types.specs.Key.{key_cmp}
use Rattle.var_types.specs.Region.{region_lives, region_map}
use Rattle.var_types.specs.Room.{in_store, room_in, room_needed, room_of, room_used}
use Rattle.var_types.specs.State.{State}
use Rattle.var_types.specs.Stores.{is_in, map_in, part, store_region}
use Rattle.region_compact.specs.Compacted.{size_after}
use Rattle.region_compact.specs.declared.replace.Replace.TheVariants.{Put}
use Rattle.region_compact.proofs.MapAfter.{SizesAreTheRoom-all, entry_room}
use Rattle.nv_store.specs.Rooms.{IsStoreOf}

-- whether a variable is kept in a store, by its attributes
abbrev is_of_store : Store → Variable → Bool
is_of_store NonVolatile v = has v.attributes non_volatile_bit
is_of_store Volatile v = not (has v.attributes non_volatile_bit)

part_is : (store : Store) (es : List (Key × Variable)) → part store es ≡ filter (λ (e : Key × Variable). is_of_store store e.1) es
unfolding is_in
part_is NonVolatile es = refl
part_is Volatile es = refl

-- the room of an entry in a store
room_is : (store : Store) (e : Key × Variable) → room_in store e ≡ cond (is_of_store store e.1) (entry_room e) 0
unfolding room_in
room_is NonVolatile e = by (has e.1.attributes non_volatile_bit)
  where
    by : (nv : Bool) → in_store NonVolatile (cond nv NonVolatile Volatile) (entry_room e) ≡ cond nv (entry_room e) 0
    by true = refl
    by false = refl
room_is Volatile e = by (has e.1.attributes non_volatile_bit)
  where
    by : (nv : Bool) → in_store Volatile (cond nv NonVolatile Volatile) (entry_room e) ≡ cond (not nv) (entry_room e) 0
    by true = refl
    by false = refl

module _ (store : Store) where
  -- the room of the store's entries
  rooms_filtered : (es : List (Key × Variable)) → sum_by entry_room (filter (λ (e : Key × Variable). is_of_store store e.1) es) ≡ sum_by (room_in store) es
  rooms_filtered [] = refl
  rooms_filtered (e ∷ es) = by (is_of_store store e.1) refl (rooms_filtered es)
    where
      by : (here : Bool) → is_of_store store e.1 ≡ here
          → sum_by entry_room (filter (λ (e : Key × Variable). is_of_store store e.1) es) ≡ sum_by (room_in store) es
          → sum_by entry_room (cond here (e ∷ filter (λ (e : Key × Variable). is_of_store store e.1) es) (filter (λ (e : Key × Variable). is_of_store store e.1) es))
          ≡ sum_by (room_in store) (e ∷ es)
      by true n rest =
          let room : room_in store e ≡ entry_room e = room_is store e ∙ ap (λ b. cond b (entry_room e) 0) n in
          omega (arith, sum_by-cons entry_room e (filter (λ (e : Key × Variable). is_of_store store e.1) es), sum_by-cons (room_in store) e es)
      by false n rest =
          let room : room_in store e ≡ 0 = room_is store e ∙ ap (λ b. cond b (entry_room e) 0) n in
          omega (arith, sum_by-cons (room_in store) e es)

  -- what is found at a key weighs the same, where the store's entries alone are looked at
  weight_filtered : (key : Key) (found : Option Variable)
      → weight_at entry_room key (option_filter (is_of_store store) found) ≡ weight_at (room_in store) key found
  weight_filtered key None = refl
  weight_filtered key (Some v) = by (is_of_store store v) refl
    where
      by : (here : Bool) → is_of_store store v ≡ here → weight_at entry_room key (cond here (Some v) None) ≡ room_in store (key, v)
      by true n = sym (room_is store (key, v) ∙ ap (λ b. cond b (entry_room (key, v)) 0) n)
      by false n = sym (room_is store (key, v) ∙ ap (λ b. cond b (entry_room (key, v)) 0) n)

pub size_needed : (state : State) (store : Store) (bytes : List ℕ) (new : NewRecord) → IsStoreOf state store bytes → store_of new.attributes ≡ store
    → size_after (store_region store bytes) (Put new) ≡ room_needed state (new_key new) (new_variable new)
unfolding room_needed region_map map_in
size_needed state store bytes new is of =
    let region = store_region store bytes in
    let key = new_key new in
    let variable = new_variable new in
    let test = is_at (key_cmp key) in
    let vars = state.variables in
    let es = region_map region in
    let one : (q : Key) → test q ≡ true → q ≡ key = λ q t. sym (same_key key q ((Equal-is (key_cmp key q)).0 t)) in
    let put = sum_by-insert_entry entry_room key_cmp_total same_key key variable es (map_exact (region_lives region)).ordered in
    let here = sum_by-remove_entry entry_room test key one es in
    let there = sum_by-remove_entry (room_in store) test key one vars in
    let held : es ≡ filter (λ (e : Key × Variable). is_of_store store e.1) vars = is.held ∙ part_is store vars in
    let all : sum_by entry_room es ≡ sum_by (room_in store) vars = ap (sum_by entry_room) held ∙ rooms_filtered store vars in
    let found : lookup test es ≡ option_filter (is_of_store store) (lookup test vars) =
    ap (lookup test) held
    ∙ lookup-filter-values (eq_by_cmp_equiv key_cmp_total) (is_of_store store) key vars (IsDistinct-from_sorted key_cmp (keys_of vars) is.ordered) in
    let weight : weight_at entry_room key (lookup test es) ≡ weight_at (room_in store) key (lookup test vars) =
    ap (weight_at entry_room key) found ∙ weight_filtered store key (lookup test vars) in
    let others : sum_by entry_room (remove_entry test es) ≡ room_used store (remove_entry test vars) = omega arith in
    SizesAreTheRoom-all region (Put new)
    ∙ put
    ∙ ap (λ n. n + room_of key variable) others
    ∙ ap (λ s. room_used s (remove_entry test vars) + room_of key variable) (sym of)
