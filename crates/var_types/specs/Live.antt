use Rattle.std.specs.Prelude.{ℕ, ◌+◌, ◌*◌, ◌%◌, ◌==◌, ◌&&◌, ◌||◌, not, Bool, List, [], ◌∷◌, take, drop, if◌then◌else◌, Option, Some, None, Result, Ok, Err}
use Rattle.std.specs.Option.{option_map}
use Rattle.var_types.specs.declared.key.Key.{Key}
use Rattle.var_types.specs.declared.name.NameFault.{NameFault}
use Rattle.var_types.specs.declared.record.Record.{Record}
use Rattle.var_types.specs.declared.record_state.RecordState.{RecordState}
use Rattle.var_types.specs.declared.variable.Variable.{Variable}
use Rattle.var_types.specs.Attributes.{has, non_volatile_bit}
use Rattle.var_types.specs.Name.{name_check}
use Rattle.var_types.specs.Record.{Form, header_size}
use Rattle.var_types.specs.RecordState.{record_state}

-- bytes as units, low byte first; a last odd byte is none
abbrev pub units_in : List ℕ → List ℕ
units_in [] = []
units_in (low ∷ []) = []
units_in (low ∷ high ∷ rest) = (low + 256 * high) ∷ units_in rest

-- a name with its NUL: the units before a 0 at the end
abbrev pub before_nul : List ℕ → Option (List ℕ)
before_nul [] = None
before_nul (unit ∷ []) = if unit == 0 then Some [] else None
before_nul (unit ∷ next ∷ rest) = option_map (λ units. unit ∷ units) (before_nul (next ∷ rest))

-- a name, where it is well-formed
abbrev pub if_named : List ℕ → Result (Unit {0}) NameFault → Option (List ℕ)
if_named units (Ok u) = Some units
if_named units (Err fault) = None

-- units that were found, where they are a well-formed name
abbrev pub well_formed : Option (List ℕ) → Option (List ℕ)
well_formed None = None
well_formed (Some units) = if_named units (name_check units)

-- the name of name bytes, where it is well-formed: an even number of bytes, the last unit 0, and before it 1 to 512 units, none 0 (UEFI 2.10, 8.2)
unfoldable pub name_in : List ℕ → ℕ → Option (List ℕ)
name_in bytes size = if size % 2 == 0 then well_formed (before_nul (units_in bytes)) else None

-- the name bytes and the data bytes of a record
abbrev pub name_bytes : Form → List ℕ → Record → List ℕ
name_bytes form bytes r = take r.header.name_size (drop (r.at + header_size form) bytes)

abbrev pub data_bytes : Form → List ℕ → Record → List ℕ
data_bytes form bytes r = take r.header.data_size (drop (r.at + header_size form + r.header.name_size) bytes)

-- a record that is a variable's: its offset, its state, and which variable of which key it holds
pub record Live : Type 0 where
  pub at : ℕ
  pub state : RecordState
  pub key : Key
  pub variable : Variable

-- the variable's record that a record with a name is
abbrev pub live_named : Form → List ℕ → Record → RecordState → Option (List ℕ) → Option Live
live_named form bytes r state None = None
live_named form bytes r state (Some name) = Some (record {
  at = r.at;
  state = state;
  key = record { guid = record { bytes = r.header.vendor_guid }; name = name };
  variable = record {
    attributes = r.header.attributes;
    bytes = data_bytes form bytes r;
    stamp = record { bytes = r.header.time_stamp };
  };
})

-- the variable's record that a record with a state is
abbrev pub live_in_state : Form → List ℕ → Record → Option RecordState → Option Live
live_in_state form bytes r None = None
live_in_state form bytes r (Some state) = live_named form bytes r state (name_in (name_bytes form bytes r) r.header.name_size)

-- the variable's record that a record is: none where it is its header only, is neither ADDED nor in transition to deleted, has no well-formed
-- name, or where the store is the non-volatile one and its attributes are not (EDK II, FindVariableEx)
unfoldable pub live_of : Form → Bool → List ℕ → Record → Option Live
live_of form non_volatile bytes r =
    if r.whole && (not non_volatile || has r.header.attributes non_volatile_bit) then live_in_state form bytes r (record_state r.header.state) else None

-- the live records from one on that may be none
abbrev pub with_live : Option Live → List Live → List Live
with_live None lives = lives
with_live (Some live) lives = live ∷ lives

-- the live records among records, in their order
abbrev pub lives : Form → Bool → List ℕ → List Record → List Live
lives form non_volatile bytes [] = []
lives form non_volatile bytes (r ∷ rs) = with_live (live_of form non_volatile bytes r) (lives form non_volatile bytes rs)

-- the entry of a map that a live record is
abbrev pub live_entry : Live → Key × Variable
live_entry live = (live.key, live.variable)
