-- A region's bytes after a compaction: the record that counts for each key, ADDED, in the order of the records.
use Rattle.std.specs.Prelude.{ℕ, ◌+◌, ◌-◌, ◌&&◌, Bool, not, List, [], ◌∷◌, ◌++◌, length, take, drop, replicate, nat_lt, if◌then◌else◌, Option, Result, Ok, Err}
use Rattle.var_types.specs.Chosen.{chosen}
use Rattle.var_types.specs.declared.key.Key.{Key}
use Rattle.var_types.specs.Live.{Live}
use Rattle.var_types.specs.Region.{Region, region_lives}
use Rattle.var_types.specs.Room.{record_size, room_of}
use Rattle.var_region.specs.Found.{is_here}
use Rattle.region_compact.specs.declared.no_room.NoRoom.{NoRoom}
use Rattle.region_compact.specs.declared.replace.Replace.{Replace}
use Rattle.region_compact.specs.Replace.{added, added_room, gap, is_replaced, replaced_key}

-- whether a live record is kept: it is the one that counts for its key among all, and that key isn't replaced
abbrev pub is_kept : List Live → Option Key → Live → Bool
is_kept all replaced live = not (is_replaced replaced live.key) && is_here live.at (chosen live.key all)

-- the live records that are kept, in their order
abbrev pub kept_of : List Live → Option Key → List Live → List Live
kept_of all replaced [] = []
kept_of all replaced (live ∷ ls) = if is_kept all replaced live then live ∷ kept_of all replaced ls else kept_of all replaced ls

-- the live records of a region that are kept
unfoldable pub kept_lives : Region → Option Key → List Live
kept_lives region replaced = kept_of (region_lives region) replaced (region_lives region)

-- the bytes of a live record, as an authenticated one
abbrev pub live_size : Live → ℕ
live_size live = record_size live.key.name live.variable.bytes

-- the same with the gap behind it
abbrev pub live_room : Live → ℕ
live_room live = room_of live.key live.variable

-- the bytes of a live record as they are copied: ADDED, a reserved byte 0, all else as it was, with the gap behind it (EDK II, Reclaim; the
-- reserved byte is this project's own)
unfoldable pub copied : List ℕ → Live → List ℕ
copied bytes live = (0xAA ∷ 0x55 ∷ 0x3F ∷ 0 ∷ []) ++ (take (live_size live - 4) (drop (live.at + 4) bytes) ++ gap (live_size live))

-- live records copied one behind the other
abbrev pub copies : List ℕ → List Live → List ℕ
copies bytes [] = []
copies bytes (live ∷ ls) = copied bytes live ++ copies bytes ls

-- the room of live records
abbrev pub rooms : List Live → ℕ
rooms [] = 0
rooms (live ∷ ls) = live_room live + rooms ls

-- the size of a compacted region, with a replacement
unfoldable pub size_after : Region → Replace → ℕ
size_after region replace = rooms (kept_lives region (replaced_key replace)) + added_room replace

-- its bytes
unfoldable pub compacted : Region → Replace → List ℕ
compacted region replace = copies region.bytes (kept_lives region (replaced_key replace)) ++ added replace

-- what a compaction answers, and the buffer that it leaves: that it doesn't fit, with its size and the buffer's, and the buffer as it was; or its
-- size, and its bytes, erased ones behind them
unfoldable pub compact_into : Region → Replace → List ℕ → Result ℕ NoRoom × List ℕ
compact_into region replace into =
    if nat_lt (length into) (size_after region replace) then (Err (record { need = size_after region replace; have = length into }), into)
    else (Ok (size_after region replace), compacted region replace ++ replicate (length into - size_after region replace) 0xFF)
