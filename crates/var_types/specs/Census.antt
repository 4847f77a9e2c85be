-- What a region holds, counted: its records by their kind, its variables, and the room that they use.
use Rattle.std.specs.Prelude.{◌≡◌, ◌≤◌, ℕ, ◌+◌, ◌-◌, ◌%◌, ◌==◌, Bool, true, false, List, count_by, length, sum_by, bit_and, if◌then◌else◌, Option, Some, None}
use Rattle.var_types.specs.declared.key.Key.{Key}
use Rattle.var_types.specs.declared.record.Record.{Record}
use Rattle.var_types.specs.declared.record_kind.RecordKind.{RecordKind}
use Rattle.var_types.specs.declared.record_kind.RecordKind.TheVariants as kind
use Rattle.var_types.specs.declared.variable.Variable.{Variable}
use Rattle.var_types.specs.Live.{Live, live_of}
use Rattle.var_types.specs.RecordState.{is_added_state}
use Rattle.var_types.specs.Region.{Region, is_tail_clean, region_map, region_records}
use Rattle.var_types.specs.Room.{room_of}

-- whether a state byte has lost the bit that a deleted record's has lost (EDK II, VAR_DELETED)
abbrev pub is_deleted_state : ℕ → Bool
is_deleted_state state = bit_and state 2 == 0

-- the kind of a record, by the variable's record that it is, if it is one: one that is none is deleted or another by its state alone, so that one
-- of a header only, of a bad name, or of foreign attributes is never ADDED or in transition (this project's own)
abbrev pub kind_with : Option Live → ℕ → RecordKind
kind_with None state = if is_deleted_state state then kind.Deleted else kind.Other
kind_with (Some live) state = if is_added_state live.state then kind.Added else kind.InTransition

-- the kind of a record of a region
abbrev pub kind_in : Region → Record → RecordKind
kind_in region r = kind_with (live_of region.form region.non_volatile region.bytes r) r.header.state

-- whether two kinds are the same
abbrev pub is_kind : RecordKind → RecordKind → Bool
is_kind kind.Added kind.Added = true
is_kind kind.InTransition kind.InTransition = true
is_kind kind.Deleted kind.Deleted = true
is_kind kind.Other kind.Other = true
is_kind _ _ = false

-- the records of a region of a kind (this project's own)
unfoldable pub count_of : RecordKind → Region → ℕ
count_of wanted region = count_by (λ r. is_kind wanted (kind_in region r)) (region_records region)

-- the room of variables' records, each with the gap behind it (this project's own)
abbrev pub records_room : List (Key × Variable) → ℕ
records_room entries = sum_by (λ (entry : Key × Variable). room_of entry.0 entry.1) entries

-- a region's census: how many records it has of which kind, how many variables, the room that they use, and whether its tail is clean (this
-- project's own)
pub record Census : Type 0 where
  pub records : ℕ
  pub added : ℕ
  pub transition : ℕ
  pub deleted : ℕ
  pub other : ℕ
  pub variables : ℕ
  pub used : ℕ
  pub clean : Bool

unfoldable pub census_of : Region → Census
census_of region = record {
  records = length (region_records region);
  added = count_of kind.Added region;
  transition = count_of kind.InTransition region;
  deleted = count_of kind.Deleted region;
  other = count_of kind.Other region;
  variables = length (region_map region);
  used = records_room (region_map region);
  clean = is_tail_clean region;
}

-- the four kinds add up to the records (this project's own)
abbrev pub KindsAddUp : Type 0
KindsAddUp =
    (region : Region)
    → count_of kind.Added region + count_of kind.InTransition region + count_of kind.Deleted region + count_of kind.Other region ≡ length (region_records region)
