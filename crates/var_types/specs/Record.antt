use Rattle.std.specs.Prelude.{◌≡◌, ℕ, zero, suc, ◌+◌, ◌==◌, ◌||◌, Bool, true, false, List, [], ◌∷◌, length, drop, nat_lt, if◌then◌else◌, Option, Some, None, Result, Ok, Err}
use Rattle.std.specs.List.{list_all}
use Rattle.var_header.specs.declared.header.Header.{Header}
use Rattle.var_header.specs.declared.header_fault.HeaderFault.{HeaderFault}
use Rattle.var_header.specs.Header.{authenticated_header_size, header_read}
use Rattle.var_types.specs.declared.record.Record.{Record}
use Rattle.var_types.specs.Room.{align4}

-- the form of a store's records (EDK II, gEfiAuthenticatedVariableGuid)
pub data Form : Type 0 where
  Authenticated : Form

-- the bytes of a header in a form
abbrev pub header_size : Form → ℕ
header_size Authenticated = authenticated_header_size

-- the header at an offset, in a form
abbrev pub header_in : Form → List ℕ → ℕ → Result Header HeaderFault
header_in Authenticated bytes at = header_read bytes at

-- the greatest number of 32 bits, which an erased field reads as
abbrev pub erased_number : ℕ
erased_number = 0xFFFFFFFF

-- whether a record is its header only: State, NameSize, DataSize or Attributes stand erased (EDK II, IsValidVariableHeader and its callers)
abbrev pub is_bare : Header → Bool
is_bare h = (h.state == 0xFF) || (h.name_size == erased_number) || (h.data_size == erased_number) || (h.attributes == erased_number)

-- the bytes of a whole record
abbrev pub whole_size : Form → Header → ℕ
whole_size form h = header_size form + h.name_size + h.data_size

-- the record of what was read at an offset: none at the end of a walk, which is where no header stands, or where the record reaches past the end
abbrev pub record_of : Form → ℕ → ℕ → Result Header HeaderFault → Option Record
record_of form len at (Err fault) = None
record_of form len at (Ok h) =
    if is_bare h then Some (record { at = at; header = h; whole = false })
    else if nat_lt len (at + whole_size form h) then None
    else Some (record { at = at; header = h; whole = true })

-- the record at an offset
unfoldable pub record_at : Form → List ℕ → ℕ → Option Record
record_at form bytes at = record_of form (length bytes) at (header_in form bytes at)

-- the offset of the record behind another: the next multiple of 4 (EDK II, GetNextVariablePtr)
abbrev pub next_offset : Form → Record → ℕ
next_offset form r = align4 (r.at + (if r.whole then whole_size form r.header else header_size form))

-- these are the records of bytes from an offset on: one after the other, up to where there is none
abbrev pub HasRecords : Form → List ℕ → ℕ → List Record → Type 0
HasRecords form bytes at [] = record_at form bytes at ≡ None
HasRecords form bytes at (r ∷ rs) = (record_at form bytes at ≡ Some r) × HasRecords form bytes (next_offset form r) rs

-- a record and those behind it
abbrev pub first_and : Form → (ℕ → List Record) → Option Record → List Record
first_and form later None = []
first_and form later (Some r) = r ∷ later (next_offset form r)

-- the records of bytes from an offset on, of which there are at most n
abbrev pub records_within : ℕ → Form → List ℕ → ℕ → List Record
records_within zero form bytes at = []
records_within (suc n) form bytes at = first_and form (records_within n form bytes) (record_at form bytes at)

-- the records of bytes from an offset on: the one list that HasRecords holds of, since each record takes some bytes
unfoldable pub records : Form → List ℕ → ℕ → List Record
records form bytes at = records_within (suc (length bytes)) form bytes at

-- the offset behind records that begin at an offset
abbrev pub tail_from : Form → ℕ → List Record → ℕ
tail_from form at [] = at
tail_from form at (r ∷ rs) = tail_from form (next_offset form r) rs

-- whether all bytes from an offset on are erased
abbrev pub is_clean : List ℕ → ℕ → Bool
is_clean bytes at = list_all (λ b. b == 0xFF) (drop at bytes)
