use Rattle.std.specs.Prelude.{◌≡◌, ℕ, ◌+◌, ◌-◌, ◌≤◌, List, Option, Some, None}
use Rattle.std.specs.BTreeMap.{is_at}
use Rattle.std.specs.Map.{remove_entry}
use Rattle.set_rules.specs.declared.room_totals.RoomTotals.{RoomTotals}
use Rattle.var_types.specs.declared.key.Key.{Key}
use Rattle.var_types.specs.declared.store.Store.{Store}
use Rattle.var_types.specs.declared.store.Store.TheVariants.{NonVolatile, Volatile}
use Rattle.var_types.specs.declared.variable.Variable.{Variable}
use Rattle.var_types.specs.Attributes.{store_of}
use Rattle.var_types.specs.Key.{key_cmp}
use Rattle.var_types.specs.Room.{room_limit, room_of, room_used}

-- the total of a store
abbrev pub total_of : RoomTotals → Store → ℕ
total_of totals NonVolatile = totals.non_volatile
total_of totals Volatile = totals.volatile

-- the totals with another one for a store
abbrev pub totals_with : RoomTotals → Store → ℕ → RoomTotals
totals_with totals NonVolatile value = record totals { non_volatile = value }
totals_with totals Volatile value = record totals { volatile = value }

-- the totals without what is stored at a key
abbrev pub totals_without : RoomTotals → Key → Option Variable → RoomTotals
totals_without totals key None = totals
totals_without totals key (Some variable) =
    totals_with totals (store_of variable.attributes) (total_of totals (store_of variable.attributes) - room_of key variable)

-- the totals with what is stored at a key besides
abbrev pub totals_and : RoomTotals → Key → Option Variable → RoomTotals
totals_and totals key None = totals
totals_and totals key (Some variable) =
    totals_with totals (store_of variable.attributes) (total_of totals (store_of variable.attributes) + room_of key variable)

-- a variable has room at a key, beside the other variables of its store
abbrev pub HasRoom : List (Key × Variable) → Key → Variable → Type 0
HasRoom variables key variable =
    room_used (store_of variable.attributes) (remove_entry (is_at (key_cmp key)) variables) + room_of key variable
    ≤ room_limit (store_of variable.attributes)

-- each total is the room that the variables take in its store, and is within the store's limit
pub record IsTotalOf (totals : RoomTotals) (variables : List (Key × Variable)) : Type 0 where
  pub summed : (store : Store) → total_of totals store ≡ room_used store variables
  pub within : (store : Store) → total_of totals store ≤ room_limit store
