-- What a store's bytes are after a put, a removal, or a compaction.
use Rattle.std.specs.Prelude.{◌≡◌, ℕ, false, List, length, take, count_by}
use Rattle.std.specs.BTreeMap.{insert_entry, is_at}
use Rattle.std.specs.List.{list_any}
use Rattle.std.specs.Map.{remove_entry}
use Rattle.var_types.specs.Chosen.{is_added, is_in_transition, is_of}
use Rattle.var_types.specs.declared.key.Key.{Key}
use Rattle.var_types.specs.declared.store.Store.{Store}
use Rattle.var_types.specs.declared.variable.Variable.{Variable}
use Rattle.var_types.specs.Key.{key_cmp}
use Rattle.var_types.specs.Live.{Live}
use Rattle.var_types.specs.Region.{region_lives}
use Rattle.var_types.specs.Stores.{first_offset, map_in, store_region}
use Rattle.nv_store.specs.Tidy.{IsTidy}

-- the live records in a store's bytes
abbrev pub lives_in : Store → List ℕ → List Live
lives_in store bytes = region_lives (store_region store bytes)

-- bytes of the same store: as many, and with the same headers (this project's own)
pub record IsSameStore (store : Store) (old new : List ℕ) : Type 0 where
  pub len : length new ≡ length old
  pub headers : take (first_offset store) new ≡ take (first_offset store) old

-- a store's bytes after a put: the map of before with the variable at its key, which has one record, ADDED, and none in transition to deleted; and
-- nothing is left over (UEFI 2.10, 8.2.3; EDK II, UpdateVariable)
pub record IsPut (store : Store) (key : Key) (variable : Variable) (old new : List ℕ) : Type 0 where
  pub same : IsSameStore store old new
  pub map : map_in store new ≡ insert_entry key_cmp (map_in store old) key variable
  pub added : count_by (is_added key) (lives_in store new) ≡ 1
  pub rest : count_by (is_in_transition key) (lives_in store new) ≡ 0
  pub tidy : IsTidy (store_region store new)

-- a store's bytes after a removal: the map of before without the key, which has no record; and nothing is left over (UEFI 2.10, 8.2.3; EDK II,
-- UpdateVariable)
pub record IsRemoved (store : Store) (key : Key) (old new : List ℕ) : Type 0 where
  pub same : IsSameStore store old new
  pub map : map_in store new ≡ remove_entry (is_at (key_cmp key)) (map_in store old)
  pub gone : list_any (is_of key) (lives_in store new) ≡ false
  pub tidy : IsTidy (store_region store new)

-- a store's bytes after a compaction that changes nothing: the map of before, and nothing is left over (EDK II, Reclaim)
pub record IsRepacked (store : Store) (old new : List ℕ) : Type 0 where
  pub same : IsSameStore store old new
  pub map : map_in store new ≡ map_in store old
  pub tidy : IsTidy (store_region store new)
