-- When a new record has no room in a store.
use Rattle.std.specs.Prelude.{◌≡◌, ℕ, ◌-◌, ◌<◌, List, length}
use Rattle.std.specs.List.Sorted.{IsStrictlySortedBy}
use Rattle.std.specs.Map.{keys_of}
use Rattle.var_types.specs.declared.store.Store.{Store}
use Rattle.var_types.specs.Key.{key_cmp}
use Rattle.var_types.specs.Room.{room_needed}
use Rattle.var_types.specs.State.{State}
use Rattle.var_types.specs.Stores.{first_offset, map_in, part}
use Rattle.var_region.specs.declared.new_record.NewRecord.{NewRecord}
use Rattle.var_region.specs.NewRecord.{new_key, new_variable}

-- a store's bytes hold a state's variables that are kept in it; a state has its variables in key order (this project's own)
pub record IsStoreOf (state : State) (store : Store) (bytes : List ℕ) : Type 0 where
  pub ordered : IsStrictlySortedBy key_cmp (keys_of state.variables)
  pub held : map_in store bytes ≡ part store state.variables

-- a new record has no room in a store: more is needed than the bytes behind the headers, by the set rule's measure in each state whose
-- variables the store holds
pub record IsNoRoom (store : Store) (bytes : List ℕ) (new : NewRecord) (needed room : ℕ) : Type 0 where
  pub need : (state : State) → IsStoreOf state store bytes → needed ≡ room_needed state (new_key new) (new_variable new)
  pub have : room ≡ length bytes - first_offset store
  pub above : room < needed
