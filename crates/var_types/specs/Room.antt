use Rattle.std.specs.Prelude.{ℕ, ◌+◌, ◌*◌, ◌/◌, List, length, sum_by}
use Rattle.std.specs.BTreeMap.{is_at}
use Rattle.std.specs.Map.{remove_entry}
use Rattle.var_types.specs.declared.key.Key.{Key}
use Rattle.var_types.specs.declared.store.Store.{Store}
use Rattle.var_types.specs.declared.store.Store.TheVariants.{NonVolatile, Volatile}
use Rattle.var_types.specs.declared.variable.Variable.{Variable}
use Rattle.var_types.specs.Attributes.{store_of}
use Rattle.var_types.specs.Key.{key_cmp}
use Rattle.var_types.specs.State.{State}

-- the bytes of an authenticated record with this name and data: its header, the name with its NUL, the data (EDK II,
-- AUTHENTICATED_VARIABLE_HEADER)
abbrev pub record_size : List ℕ → List ℕ → ℕ
record_size name bytes = 60 + 2 * length name + 2 + length bytes

-- the least multiple of 4 that isn't below a number
abbrev pub align4 : ℕ → ℕ
align4 n = (n + 3) / 4 * 4

-- the room of a variable's record with the gap behind it (EDK II, HEADER_ALIGNMENT)
abbrev pub room_of : Key → Variable → ℕ
room_of key variable = align4 (record_size key.name variable.bytes)

-- the room of a store's records: what its headers leave of its bytes (this project's own)
abbrev pub room_limit : Store → ℕ
room_limit NonVolatile = 57244
room_limit Volatile = 65508

-- a value for one of the stores, and another for the other
abbrev pub in_store : Store → Store → ℕ → ℕ
in_store NonVolatile NonVolatile n = n
in_store NonVolatile Volatile n = 0
in_store Volatile NonVolatile n = 0
in_store Volatile Volatile n = n

-- the room that a variable takes in a store: none where it is kept in the other
unfoldable pub room_in : Store → Key × Variable → ℕ
room_in store entry = in_store store (store_of entry.1.attributes) (room_of entry.0 entry.1)

-- the room that variables take in a store
abbrev pub room_used : Store → List (Key × Variable) → ℕ
room_used store variables = sum_by (room_in store) variables

-- the room that the store of a variable needs once the variable is put at a key: its other variables' and this one's
-- (this project's own)
unfoldable pub room_needed : State → Key → Variable → ℕ
room_needed state key variable =
    room_used (store_of variable.attributes) (remove_entry (is_at (key_cmp key)) state.variables) + room_of key variable
