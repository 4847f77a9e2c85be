-- How the bytes of a region change: a record is added at the tail, or the state byte of one is replaced.
use Rattle.std.specs.Prelude.{◌≡◌, ◌≤◌, ℕ, ◌+◌, ◌&&◌, Bool, true, List, length, nat_le, slice_set, IsSomeAnd}
use Rattle.var_types.specs.declared.record.Record.{Record}
use Rattle.var_types.specs.Placed.{placed}
use Rattle.var_types.specs.Record.{Authenticated, record_at}
use Rattle.var_types.specs.Region.{Region, is_tail_clean, tail_offset}
use Rattle.var_region.specs.declared.new_record.NewRecord.{NewRecord}
use Rattle.var_region.specs.NewRecord.{IsNew, new_bytes, new_size}

-- whether so many bytes fit behind the records of a region: the tail is clean, and has the room
abbrev pub fits_behind : Region → ℕ → Bool
fits_behind region size = is_tail_clean region && nat_le (tail_offset region + size) (length region.bytes)

-- a region with other bytes
abbrev pub with_bytes : Region → List ℕ → Region
with_bytes region bytes = record region { bytes = bytes }

-- a region after a new record was written in a state at its tail
abbrev pub appended : ℕ → Region → NewRecord → Region
appended state region new = with_bytes region (placed (tail_offset region) (new_bytes state new) region.bytes)

-- a new record may be written at a region's tail: it is clean, and has the room
pub record FitsBehind (region : Region) (new : NewRecord) : Type 0 where
  pub is : IsNew new
  pub clean : is_tail_clean region ≡ true
  pub room : tail_offset region + new_size new ≤ length region.bytes

-- bytes in which the state byte of a record at an offset is another (EDK II, AUTHENTICATED_VARIABLE_HEADER: State stands at 2)
abbrev pub state_set : ℕ → ℕ → List ℕ → List ℕ
state_set at state bytes = slice_set bytes (at + 2) state

-- a record in another state
abbrev pub in_state : ℕ → Record → Record
in_state state r = record r { header = record r.header { state = state } }

-- a whole record stands at an offset
abbrev pub HasWholeRecord : List ℕ → ℕ → Type 0
HasWholeRecord bytes at = IsSomeAnd (record_at Authenticated bytes at) (λ r. r.whole ≡ true)
