-- The stores of variables: their bytes and the phase, what a reader sees in them, and which state they mean.
use Rattle.std.specs.Prelude.{◌≡◌, ℕ, Bool, true, false, not, List, length, filter}
use Rattle.var_types.specs.declared.key.Key.{Key}
use Rattle.var_types.specs.declared.store.Store.{Store}
use Rattle.var_types.specs.declared.store.Store.TheVariants.{NonVolatile, Volatile}
use Rattle.var_types.specs.declared.variable.Variable.{Variable}
use Rattle.var_types.specs.Attributes.{has, non_volatile_bit}
use Rattle.var_types.specs.Layout.{headers_size, store_header_size, volatile_size, volume_size}
use Rattle.var_types.specs.Record.{Authenticated}
use Rattle.var_types.specs.Region.{Region, region_map}
use Rattle.var_types.specs.State.{State, start}
use Rattle.var_types.specs.TwoRegions.{joined}

-- the bytes of the two stores, headers included, and whether the phase is runtime (EDK II, VARIABLE_RUNTIME_CACHE_CONTEXT)
pub record Stores : Type 0 where
  pub non_volatile : List ℕ
  pub volatile : List ℕ
  pub runtime : Bool

-- the bytes of one of the stores
abbrev pub bytes_in : Stores → Store → List ℕ
bytes_in stores NonVolatile = stores.non_volatile
bytes_in stores Volatile = stores.volatile

-- the stores with other bytes in one of them
abbrev pub with_store : Stores → Store → List ℕ → Stores
with_store stores NonVolatile bytes = record stores { non_volatile = bytes }
with_store stores Volatile bytes = record stores { volatile = bytes }

-- the stores have their sizes, headers counted: a volume's, and 65,536 bytes
pub record HaveSizes (stores : Stores) : Type 0 where
  pub non_volatile : length stores.non_volatile ≡ volume_size
  pub volatile : length stores.volatile ≡ volatile_size

-- the offset of a store's first record: behind the headers of volume and store, or behind the store's alone (PI 1.8 volume 3, 3.2.1; EDK II,
-- VARIABLE_STORE_HEADER)
abbrev pub first_offset : Store → ℕ
first_offset NonVolatile = headers_size
first_offset Volatile = store_header_size

-- whether a store is the non-volatile one
abbrev pub is_non_volatile : Store → Bool
is_non_volatile NonVolatile = true
is_non_volatile Volatile = false

-- the region that a store's bytes are
abbrev pub store_region : Store → List ℕ → Region
store_region store bytes =
    record { form = Authenticated; bytes = bytes; first = first_offset store; non_volatile = is_non_volatile store }

-- the variables that a store's bytes hold, in key order
unfoldable pub map_in : Store → List ℕ → List (Key × Variable)
map_in store bytes = region_map (store_region store bytes)

-- a state with these variables in a phase; reads look at nothing else
abbrev pub state_with : List (Key × Variable) → Bool → State
state_with variables runtime = record (start variables 0) { runtime = runtime }

-- the state that readers of two regions see in a phase: the variables of both
unfoldable pub state_seen : Region → Region → Bool → State
state_seen a b runtime = state_with (joined (region_map a) (region_map b)) runtime

-- the state that readers of the stores see
unfoldable pub state_in : Stores → State
state_in stores = state_seen (store_region NonVolatile stores.non_volatile) (store_region Volatile stores.volatile) stores.runtime

-- whether a variable is kept in a store (UEFI 2.10, 8.2)
unfoldable pub is_in : Store → Key × Variable → Bool
is_in NonVolatile entry = has entry.1.attributes non_volatile_bit
is_in Volatile entry = not (has entry.1.attributes non_volatile_bit)

-- the variables that are kept in a store (UEFI 2.10, 8.2)
abbrev pub part : Store → List (Key × Variable) → List (Key × Variable)
part store variables = filter (is_in store) variables

-- two stores mean a state: each holds the state's variables that are kept in it, and the phase is the state's (this project's own)
pub record Means (stores : Stores) (state : State) : Type 0 where
  pub each : (store : Store) → map_in store (bytes_in stores store) ≡ part store state.variables
  pub phase : stores.runtime ≡ state.runtime
