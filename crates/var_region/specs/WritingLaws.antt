-- What is read of a region's bytes after a record was written at its tail, in part or whole, and after the state byte of one was replaced.
use Rattle.std.specs.Prelude.{◌≡◌, ◌≢◌, ◌⊎◌, ◌≤◌, ◌<◌, ℕ, ◌+◌, ◌^◌, true, false, List, [], ◌∷◌, ◌++◌, length, take, drop, slice_index, None}
use Rattle.std.specs.BTreeMap.{insert_entry}
use Rattle.std.specs.List.{AllByRecursion, list_any}
use Rattle.std.specs.Option.{option_map}
use Rattle.var_header.specs.declared.header.Header.{Header}
use Rattle.var_header.specs.Header.{header_bytes}
use Rattle.var_types.specs.Chosen.{is_added}
use Rattle.var_types.specs.declared.record.Record.{Record}
use Rattle.var_types.specs.declared.record_state.RecordState.{RecordState}
use Rattle.var_types.specs.declared.record_state.RecordState.TheVariants.{Added, InDeletedTransition}
use Rattle.var_types.specs.Key.{key_cmp}
use Rattle.var_types.specs.Live.{Live, with_live}
use Rattle.var_types.specs.Placed.{IsOutsideKept, placed}
use Rattle.var_types.specs.RecordState.{record_state}
use Rattle.var_types.specs.Region.{Region, is_tail_clean, region_lives, region_map, region_records, tail_offset}
use Rattle.var_types.specs.Room.{align4}
use Rattle.var_region.specs.declared.new_record.NewRecord.{NewRecord}
use Rattle.var_region.specs.NewRecord.{IsOfStore, new_body, new_bytes, new_header, new_key, new_live, new_record, new_size, new_variable}
use Rattle.var_region.specs.Written.{FitsBehind, HasWholeRecord, appended, in_state, state_set, with_bytes}

-- a new record's header stands in a state at a region's tail, with whatever bytes in place of its name and data; all else is as it was
pub record IsBegun (region : Region) (state : ℕ) (new : NewRecord) (bytes : List ℕ) : Type 0 where
  pub outside : IsOutsideKept (tail_offset region) (tail_offset region + new_size new) region.bytes bytes
  pub header : take 60 (drop (tail_offset region) bytes) ≡ header_bytes (new_header state new)

-- a region of other bytes has these records, the last of which stands at the old tail, and a clean tail behind that
pub record HasOneMore (region : Region) (r : Record) (size : ℕ) (bytes : List ℕ) : Type 0 where
  pub records : region_records (with_bytes region bytes) ≡ region_records region ++ (r ∷ [])
  pub offset : tail_offset (with_bytes region bytes) ≡ align4 (tail_offset region + size)
  pub clean : is_tail_clean (with_bytes region bytes) ≡ true

-- where a new record's header stands in a state other than the erased one, that record is one more, whatever its name and data
abbrev pub BegunRecordsStand : Type 0
BegunRecordsStand =
    (region : Region) (new : NewRecord) (state : ℕ) (bytes : List ℕ) → FitsBehind region new → state < 0xFF → IsBegun region state new bytes
    → HasOneMore region (new_record (tail_offset region) state new) (new_size new) bytes

-- a new record's header that was written at the tail stands there
abbrev pub HeadersBegin : Type 0
HeadersBegin =
    (region : Region) (new : NewRecord) (state : ℕ) → FitsBehind region new → state < 2 ^ 8
    → IsBegun region state new (placed (tail_offset region) (header_bytes (new_header state new)) region.bytes)

-- it stands there whatever is written in place of its name and data
abbrev pub BodiesKeepTheHeader : Type 0
BodiesKeepTheHeader =
    (region : Region) (new : NewRecord) (state : ℕ) (bytes other : List ℕ) → FitsBehind region new → IsBegun region state new bytes
    → IsOutsideKept (tail_offset region + 60) (tail_offset region + new_size new) bytes other → IsBegun region state new other

-- how bytes at an offset go by steps: a header with another state byte is the header in that state, the name and data behind a header are the
-- record, and a record with another state byte is the record in that state
pub record AreSteps (at : ℕ) (new : NewRecord) (old : List ℕ) (state next : ℕ) : Type 0 where
  pub header : state_set at next (placed at (header_bytes (new_header state new)) old) ≡ placed at (header_bytes (new_header next new)) old
  pub body : placed (at + 60) (new_body new) (placed at (header_bytes (new_header state new)) old) ≡ placed at (new_bytes state new) old
  pub whole : state_set at next (placed at (new_bytes state new) old) ≡ placed at (new_bytes next new) old

-- the steps of an append leave its bytes
abbrev pub StepsLeaveTheirBytes : Type 0
StepsLeaveTheirBytes =
    (region : Region) (new : NewRecord) (state next : ℕ) → FitsBehind region new → state < 2 ^ 8
    → AreSteps (tail_offset region) new region.bytes state next

-- an append at a clean tail adds one record, in its state
abbrev pub AppendsAddOneRecord : Type 0
AppendsAddOneRecord =
    (region : Region) (new : NewRecord) (state : ℕ) → FitsBehind region new → state < 0xFF
    → HasOneMore region (new_record (tail_offset region) state new) (new_size new) (appended state region new).bytes

-- an ADDED one adds one live record
abbrev pub AppendsAddOneLiveRecord : Type 0
AppendsAddOneLiveRecord =
    (region : Region) (new : NewRecord) → FitsBehind region new → IsOfStore region.non_volatile new
    → region_lives (appended 0x3F region new) ≡ region_lives region ++ (new_live (tail_offset region) new ∷ [])

-- it puts its variable into the map, where its key has no ADDED record
abbrev pub AppendsPutTheirVariable : Type 0
AppendsPutTheirVariable =
    (region : Region) (new : NewRecord) → FitsBehind region new → IsOfStore region.non_volatile new
    → list_any (is_added (new_key new)) (region_lives region) ≡ false
    → region_map (appended 0x3F region new) ≡ insert_entry key_cmp (region_map region) (new_key new) (new_variable new)

-- whatever bits of a header that is programmed at a clean tail stand, while its State is the erased one: no record is read of it, or one of its
-- header only
abbrev pub TornHeadersAreHeadersAtMost : Type 0
TornHeadersAreHeadersAtMost =
    (region : Region) (bytes : List ℕ) → is_tail_clean region ≡ true
    → IsOutsideKept (tail_offset region) (tail_offset region + 60) region.bytes bytes
    → slice_index bytes (tail_offset region + 2) ≡ 0xFF
    → (region_records (with_bytes region bytes) ≡ region_records region)
    ⊎ ((h : Header) × (region_records (with_bytes region bytes) ≡ region_records region ++ (record { at = tail_offset region; header = h; whole = false } ∷ [])))

-- whatever stands in place of a header at a clean tail, no live record comes or goes while its State is neither ADDED nor in transition
abbrev pub TornHeadersChangeNoVariable : Type 0
TornHeadersChangeNoVariable =
    (region : Region) (bytes : List ℕ) → is_tail_clean region ≡ true
    → IsOutsideKept (tail_offset region) (tail_offset region + 60) region.bytes bytes
    → record_state (slice_index bytes (tail_offset region + 2)) ≡ None
    → region_lives (with_bytes region bytes) ≡ region_lives region

-- nor while a new record's header stands in such a state, whatever its name and data
abbrev pub TornBodiesChangeNoVariable : Type 0
TornBodiesChangeNoVariable =
    (region : Region) (new : NewRecord) (state : ℕ) (bytes : List ℕ) → FitsBehind region new → state < 0xFF → record_state state ≡ None
    → IsBegun region state new bytes → region_lives (with_bytes region bytes) ≡ region_lives region

-- another state byte of a whole record changes that record's state alone
abbrev pub MarksChangeOneRecord : Type 0
MarksChangeOneRecord =
    (region : Region) (before after : List Record) (r : Record) (state : ℕ) → region_records region ≡ before ++ r ∷ after → r.whole ≡ true
    → state ≢ 0xFF → region_records (with_bytes region (state_set r.at state region.bytes)) ≡ before ++ in_state state r ∷ after

-- a live record by its new state byte: it is in the state that this says, or is live no more
abbrev pub live_restated : ℕ → Live → List Live → List Live
live_restated state live = with_live (option_map (λ said. record live { state = said }) (record_state state))

-- a region in which one live record has another state byte: that live record is restated or gone, the others and the tail are as they were
pub record IsRestated (region : Region) (before after : List Live) (live : Live) (state : ℕ) (bytes : List ℕ) : Type 0 where
  pub lives : region_lives (with_bytes region bytes) ≡ before ++ live_restated state live after
  pub offset : tail_offset (with_bytes region bytes) ≡ tail_offset region
  pub clean : is_tail_clean (with_bytes region bytes) ≡ is_tail_clean region

-- another state byte of a live record restates it, or it is live no more
abbrev pub MarksRestateOneLiveRecord : Type 0
MarksRestateOneLiveRecord =
    (region : Region) (before after : List Live) (live : Live) (state : ℕ) → region_lives region ≡ before ++ live ∷ after → state ≢ 0xFF
    → IsRestated region before after live state (state_set live.at state region.bytes)

-- the byte of a live record's state (EDK II, VAR_ADDED, and VAR_ADDED & VAR_IN_DELETED_TRANSITION)
abbrev pub state_byte : RecordState → ℕ
state_byte Added = 0x3F
state_byte InDeletedTransition = 0x3E

-- a live record stands whole in the bytes, behind where the records begin, and its state byte says its state
pub record StandsWhole (region : Region) (live : Live) : Type 0 where
  pub low : region.first ≤ live.at
  pub whole : HasWholeRecord region.bytes live.at
  pub room : live.at + 60 ≤ length region.bytes
  pub byte : slice_index region.bytes (live.at + 2) ≡ state_byte live.state

-- each live record stands whole
abbrev pub LiveRecordsStandWhole : Type 0
LiveRecordsStandWhole = (region : Region) → AllByRecursion (StandsWhole region) (region_lives region)
