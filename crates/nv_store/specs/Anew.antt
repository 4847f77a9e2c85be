-- A store's bytes written anew.
use Rattle.std.specs.Prelude.{ℕ, ◌-◌, ◌≤◌, List, ◌++◌, length, take, replicate}
use Rattle.var_types.specs.declared.store.Store.{Store}
use Rattle.var_types.specs.Stores.{first_offset, store_region}
use Rattle.region_compact.specs.Compacted.{compacted, size_after}
use Rattle.region_compact.specs.declared.replace.Replace.{Replace}

-- how many bytes a store's records may take
abbrev pub room_in : Store → List ℕ → ℕ
room_in store bytes = length bytes - first_offset store

-- a store's bytes written anew, with a replacement: the same headers, what counts, and erased bytes behind it (EDK II, Reclaim)
unfoldable pub anew_bytes : Store → List ℕ → Replace → List ℕ
anew_bytes store bytes replace =
    take (first_offset store) bytes
    ++ (compacted (store_region store bytes) replace ++ replicate (room_in store bytes - size_after (store_region store bytes) replace) 0xFF)

-- what counts has room with a replacement
abbrev pub HasRoom : Store → List ℕ → Replace → Type 0
HasRoom store bytes replace = size_after (store_region store bytes) replace ≤ room_in store bytes
