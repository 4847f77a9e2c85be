-- A record to be written: its header, its bytes, and what it is read as.
use Rattle.std.specs.Prelude.{◌≡◌, ◌≤◌, ℕ, ◌+◌, ◌*◌, Bool, true, List, [], ◌∷◌, ◌++◌, length, Ok}
use Rattle.byteorder.specs.Endian.{little_bytes}
use Rattle.var_header.specs.declared.header.Header.{Header}
use Rattle.var_header.specs.Header.{header_bytes}
use Rattle.var_types.specs.Attributes.{has, non_volatile_bit}
use Rattle.var_types.specs.declared.key.Key.{Key}
use Rattle.var_types.specs.declared.record.Record.{Record}
use Rattle.var_types.specs.declared.record_state.RecordState.TheVariants.{Added}
use Rattle.var_types.specs.declared.variable.Variable.{Variable}
use Rattle.var_types.specs.Key.{key_of}
use Rattle.var_types.specs.Live.{Live}
use Rattle.var_types.specs.Name.{name_check}
use Rattle.var_types.specs.Room.{record_size}
use Rattle.var_types.specs.Values.{AreUnits}
use Rattle.var_region.specs.declared.new_record.NewRecord.{NewRecord}

-- the bytes of units, low byte first (UEFI 2.10, 2.3.1, CHAR16)
abbrev pub unit_bytes : List ℕ → List ℕ
unit_bytes [] = []
unit_bytes (unit ∷ units) = little_bytes 2 unit ++ unit_bytes units

-- the header of a new record in a state; NameSize counts the NUL (EDK II, AUTHENTICATED_VARIABLE_HEADER)
abbrev pub new_header : ℕ → NewRecord → Header
new_header state new = record {
  state = state;
  attributes = new.attributes;
  time_stamp = new.stamp.bytes;
  name_size = 2 * length new.name.now + 2;
  data_size = length new.payload.now;
  vendor_guid = new.guid.bytes;
}

-- what follows a new record's header: the name with its NUL, and the data (EDK II, AUTHENTICATED_VARIABLE_HEADER)
unfoldable pub new_body : NewRecord → List ℕ
new_body new = (unit_bytes new.name.now ++ (0 ∷ 0 ∷ [])) ++ new.payload.now

-- the bytes of a new record in a state
unfoldable pub new_bytes : ℕ → NewRecord → List ℕ
new_bytes state new = header_bytes (new_header state new) ++ new_body new

-- how many bytes a new record has
abbrev pub new_size : NewRecord → ℕ
new_size new = record_size new.name.now new.payload.now

-- the key of a new record
abbrev pub new_key : NewRecord → Key
new_key new = key_of new.guid new.name.now

-- the variable of a new record
abbrev pub new_variable : NewRecord → Variable
new_variable new = record { attributes = new.attributes; bytes = new.payload.now; stamp = new.stamp }

-- the record that a new one in a state is, at an offset
abbrev pub new_record : ℕ → ℕ → NewRecord → Record
new_record at state new = record { at = at; header = new_header state new; whole = true }

-- the live record that a new one is, once it is ADDED at an offset
abbrev pub new_live : ℕ → NewRecord → Live
new_live at new = record { at = at; state = Added; key = new_key new; variable = new_variable new }

-- what may be written: a well-formed name, attributes of the low eight bits, and at most 65,536 bytes of data (the bounds are this project's own)
pub record CanWrite (new : NewRecord) : Type 0 where
  pub named : name_check new.name.now ≡ Ok tt
  pub attributes : new.attributes ≤ 0xFF
  pub payload : length new.payload.now ≤ 65536

-- the parts are values of their types, as those of a program always are
pub record AreValues (new : NewRecord) : Type 0 where
  pub units : AreUnits new.name.now
  pub stamp : length new.stamp.bytes ≡ 16
  pub guid : length new.guid.bytes ≡ 16

-- a new record that may be written, of a program
pub record IsNew (new : NewRecord) : Type 0 where
  pub can : CanWrite new
  pub values : AreValues new

-- a new record belongs to a store: to the non-volatile one with NON_VOLATILE alone (UEFI 2.10, 8.2)
abbrev pub IsOfStore : Bool → NewRecord → Type 0
IsOfStore non_volatile new = non_volatile ≡ true → has new.attributes non_volatile_bit ≡ true
