-- What each step of a write in place does to a store's bytes.
use Rattle.std.specs.Prelude.{◌≡◌, ◌≢◌, ◌⊎◌, ℕ, ◌+◌, ◌≤◌, ◌<◌, true, false, List, length, Option, None, count_by, is_some, if◌then◌else◌, slice_index}
use Rattle.std.specs.BTreeMap.{insert_entry, is_at}
use Rattle.std.specs.List.{AllByRecursion, list_any}
use Rattle.std.specs.Map.{remove_entry}
use Rattle.var_types.specs.Chosen.{is_added, is_in_transition, is_of}
use Rattle.var_types.specs.declared.key.Key.{Key}
use Rattle.var_types.specs.declared.record_state.RecordState.{RecordState}
use Rattle.var_types.specs.declared.record_state.RecordState.TheVariants.{Added, InDeletedTransition}
use Rattle.var_types.specs.declared.span.Span.{Span}
use Rattle.var_types.specs.declared.store.Store.{Store}
use Rattle.var_types.specs.declared.variable.Variable.{Variable}
use Rattle.var_types.specs.Key.{key_cmp}
use Rattle.var_types.specs.Live.{Live}
use Rattle.var_types.specs.Region.{is_tail_clean, tail_offset}
use Rattle.var_types.specs.Stores.{first_offset, map_in, store_region}
use Rattle.var_region.specs.Written.{HasWholeRecord}
use Rattle.nv_store.specs.Changes.{IsSameStore, lives_in}
use Rattle.nv_store.specs.Places.{first_in, nowhere, stands_in}

-- the record of a key in transition to deleted that stands beside an ADDED one, where there are both
abbrev pub twin_of : Key → List Live → Option Live
twin_of key ls = if is_some (first_in Added key ls) then first_in InDeletedTransition key ls else None

-- a record stands at an offset of a store's bytes, behind the headers, with this state byte
pub record IsPlace (store : Store) (bytes : List ℕ) (state : ℕ) (at : ℕ) : Type 0 where
  pub low : first_offset store ≤ at
  pub room : at + 60 ≤ length bytes
  pub byte : slice_index bytes (at + 2) ≡ state
  pub whole : HasWholeRecord bytes at

-- no state byte of a key's records stands at an offset
abbrev pub IsApart : Key → ℕ → List Live → Type 0
IsApart key at ls = AllByRecursion (λ live. is_of key live ≡ true → live.at + 2 ≢ at) ls

-- an offset is outside of a range
abbrev pub IsOutside : Span → ℕ → Type 0
IsOutside span at = (at < span.from) ⊎ (span.to ≤ at)

-- bytes of a store in which records of one key alone have changed: their state bytes, and bytes in a range (this project's own)
pub record IsTouched (store : Store) (key : Key) (span : Span) (old new : List ℕ) : Type 0 where
  pub same : IsSameStore store old new
  pub clean : is_tail_clean (store_region store old) ≡ true → is_tail_clean (store_region store new) ≡ true
  pub others : (other : Key) (state : RecordState) → is_at (key_cmp key) other ≡ false
      → count_by (stands_in state other) (lives_in store new) ≤ count_by (stands_in state other) (lives_in store old)
  pub apart : (at : ℕ) → IsOutside span at → IsApart key at (lives_in store old) → IsApart key at (lives_in store new)
  pub bytes : (at : ℕ) → IsOutside span at → IsApart key at (lives_in store old) → slice_index new at ≡ slice_index old at

-- bytes of a store in which state bytes of a key's records alone have changed (this project's own)
pub record IsMarked (store : Store) (key : Key) (old new : List ℕ) : Type 0 where
  pub touched : IsTouched store key nowhere old new
  pub tail : tail_offset (store_region store new) ≡ tail_offset (store_region store old)

-- the twin of a key's ADDED record is gone, where there was one; the map is as it was (this project's own)
pub record IsTwinDropped (store : Store) (key : Key) (old new : List ℕ) : Type 0 where
  pub marked : IsMarked store key old new
  pub map : map_in store new ≡ map_in store old
  pub added : count_by (is_added key) (lives_in store new) ≡ count_by (is_added key) (lives_in store old)
  pub fewer : count_by (is_in_transition key) (lives_in store new) ≤ count_by (is_in_transition key) (lives_in store old)
  pub gone : 1 ≤ count_by (is_added key) (lives_in store old) → count_by (is_in_transition key) (lives_in store new) ≡ 0
  pub alone : count_by (is_added key) (lives_in store old) ≡ 0
      → count_by (is_in_transition key) (lives_in store new) ≡ count_by (is_in_transition key) (lives_in store old)

-- a key's ADDED record is in transition to deleted, where there was one; the map is as it was (this project's own)
pub record IsOutdated (store : Store) (key : Key) (old new : List ℕ) : Type 0 where
  pub marked : IsMarked store key old new
  pub map : map_in store new ≡ map_in store old
  pub added : count_by (is_added key) (lives_in store new) ≡ 0
  pub few : count_by (is_in_transition key) (lives_in store new) ≤ 1

-- a new record of a key is ADDED in a range (this project's own)
pub record IsAdded (store : Store) (key : Key) (variable : Variable) (span : Span) (old new : List ℕ) : Type 0 where
  pub touched : IsTouched store key span old new
  pub map : map_in store new ≡ insert_entry key_cmp (map_in store old) key variable
  pub added : count_by (is_added key) (lives_in store new) ≡ 1
  pub rest : count_by (is_in_transition key) (lives_in store new) ≡ count_by (is_in_transition key) (lives_in store old)

-- a key's last record is gone, and its variable with it (this project's own)
pub record IsLastDeleted (store : Store) (key : Key) (old new : List ℕ) : Type 0 where
  pub marked : IsMarked store key old new
  pub map : map_in store new ≡ remove_entry (is_at (key_cmp key)) (map_in store old)
  pub gone : list_any (is_of key) (lives_in store new) ≡ false
