-- What a compacted region is read as.
use Rattle.std.specs.Prelude.{◌≡◌, ◌≤◌, ℕ, ◌+◌, ◌%◌, Bool, true, false, List, [], ◌∷◌, ◌++◌, length, take, drop, replicate, sum_by, filter}
use Rattle.std.specs.List.{AllByRecursion, list_any}
use Rattle.std.specs.List.Sorted.{IsStrictlySortedBy}
use Rattle.std.specs.Map.{keys_of}
use Rattle.var_types.specs.Attributes.{has, non_volatile_bit}
use Rattle.var_types.specs.Census.{Census, census_of, records_room}
use Rattle.var_types.specs.Chosen.{is_of}
use Rattle.var_types.specs.declared.key.Key.{Key}
use Rattle.var_types.specs.declared.record_state.RecordState.TheVariants.{Added}
use Rattle.var_types.specs.declared.variable.Variable.{Variable}
use Rattle.var_types.specs.Key.{key_cmp}
use Rattle.var_types.specs.Live.{Live}
use Rattle.var_types.specs.Record.{Authenticated}
use Rattle.var_types.specs.RecordState.{is_added_state}
use Rattle.var_types.specs.Region.{Region, is_tail_clean, region_lives, region_map, tail_offset}
use Rattle.var_types.specs.Room.{room_needed, room_of}
use Rattle.var_types.specs.State.{State}
use Rattle.var_region.specs.declared.new_record.NewRecord.{NewRecord}
use Rattle.var_region.specs.NewRecord.{new_key, new_variable}
use Rattle.region_compact.specs.Compacted.{compacted, copied, kept_lives, live_room, size_after}
use Rattle.region_compact.specs.declared.replace.Replace.{Replace}
use Rattle.region_compact.specs.declared.replace.Replace.TheVariants.{Put}
use Rattle.region_compact.specs.Replace.{IsReplaceIn, added_lives, map_after, replaced_key}

-- a compacted region behind other bytes, with some erased ones behind it
abbrev pub anew : Region → Replace → List ℕ → ℕ → Region
anew region replace front left = record {
  form = Authenticated;
  bytes = front ++ (compacted region replace ++ replicate left 0xFF);
  first = length front;
  non_volatile = region.non_volatile;
}

-- live records, ADDED, one behind the other from an offset on
abbrev pub moved : ℕ → List Live → List Live
moved at [] = []
moved at (live ∷ ls) = record live { at = at; state = Added } ∷ moved (at + live_room live) ls

-- each live record is ADDED and the only one of its key
abbrev pub EachKeyOnce : List Live → Type 0
EachKeyOnce [] = Unit {0}
EachKeyOnce (live ∷ ls) = (is_added_state live.state ≡ true) × ((list_any (is_of live.key) ls ≡ false) × EachKeyOnce ls)

-- what holds of each compacted region that begins at a multiple of 4, whatever bytes are before it and however many erased ones behind it
abbrev pub OfCompactions : (Region → Replace → List ℕ → ℕ → Type 0) → Type 0
OfCompactions P =
    (region : Region) (replace : Replace) (front : List ℕ) (left : ℕ) → IsReplaceIn region.non_volatile replace → length front % 4 ≡ 0
    → P region replace front left

-- its live records are those kept, in the order of their records, and the new one behind them
abbrev pub CompactionsKeepTheOrder : Type 0
CompactionsKeepTheOrder =
    OfCompactions (λ region replace front left. region_lives (anew region replace front left)
    ≡ moved (length front) (kept_lives region (replaced_key replace) ++ added_lives replace))

-- its map is the region's with the replacement
abbrev pub CompactionsKeepTheMap : Type 0
CompactionsKeepTheMap =
    OfCompactions (λ region replace front left. region_map (anew region replace front left) ≡ map_after replace (region_map region))

-- a region is in the order that a compaction leaves: each key once, nothing left over, and a clean tail
pub record IsInOrder (region : Region) (tail : ℕ) : Type 0 where
  pub once : EachKeyOnce (region_lives region)
  pub offset : tail_offset region ≡ tail
  pub clean : is_tail_clean region ≡ true

-- it is in that order, and its tail stands behind its size
abbrev pub CompactionsLeaveOrder : Type 0
CompactionsLeaveOrder = OfCompactions (λ region replace front left. IsInOrder (anew region replace front left) (length front + size_after region replace))

-- a census of ADDED records alone, one for each variable (this project's own)
pub record IsOfAddedAlone (census : Census) : Type 0 where
  pub records : census.records ≡ census.variables
  pub added : census.added ≡ census.variables
  pub transition : census.transition ≡ 0
  pub deleted : census.deleted ≡ 0
  pub other : census.other ≡ 0

-- it has as many ADDED records as variables, and no other records
abbrev pub CompactionsLeaveAddedAlone : Type 0
CompactionsLeaveAddedAlone = OfCompactions (λ region replace front left. IsOfAddedAlone (census_of (anew region replace front left)))

-- the header of a copied record is as it was behind its first four bytes, MonotonicCount and PubKeyIndex too
abbrev pub CopiesKeepTheirHeaders : Type 0
CopiesKeepTheirHeaders =
    (region : Region) → AllByRecursion (λ live. take 56 (drop 4 (copied region.bytes live)) ≡ take 56 (drop (live.at + 4) region.bytes)) (region_lives region)

-- there are as many bytes as the size says
abbrev pub CompactionsHaveTheirSize : Type 0
CompactionsHaveTheirSize =
    (region : Region) (replace : Replace) → IsReplaceIn region.non_volatile replace → length (compacted region replace) ≡ size_after region replace

-- the size is the room of the variables after the replacement
abbrev pub SizesAreTheRoom : Type 0
SizesAreTheRoom =
    (region : Region) (replace : Replace)
    → size_after region replace ≡ sum_by (λ (entry : Key × Variable). room_of entry.0 entry.1) (map_after replace (region_map region))

-- whether a variable is kept in the non-volatile store (UEFI 2.10, 8.2)
abbrev pub is_non_volatile : Key × Variable → Bool
is_non_volatile entry = has entry.1.attributes non_volatile_bit

-- a region is the non-volatile store of a state
pub record IsStoreOf (state : State) (region : Region) : Type 0 where
  pub ordered : IsStrictlySortedBy key_cmp (keys_of state.variables)
  pub held : region_map region ≡ filter is_non_volatile state.variables

-- with a non-volatile variable put, the size is the room that the set rule needs
abbrev pub SizesAreTheRoomNeeded : Type 0
SizesAreTheRoomNeeded =
    (state : State) (region : Region) (new : NewRecord) → IsStoreOf state region → has new.attributes non_volatile_bit ≡ true
    → size_after region (Put new) ≡ room_needed state (new_key new) (new_variable new)

-- the variables of a region whose ends are multiples of 4 use no more room than it has behind its first record's offset, whatever its bytes
-- (this project's own)
abbrev pub VariablesFit : Type 0
VariablesFit =
    (region : Region) → region.first % 4 ≡ 0 → length region.bytes % 4 ≡ 0 → region.first ≤ length region.bytes
    → records_room (region_map region) + region.first ≤ length region.bytes
