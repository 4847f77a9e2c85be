use Rattle.std.specs.Prelude.{◌≡◌, ℕ, ◌+◌, ◌^◌, ◌<◌, ◌==◌, ◌&&◌, Bool, List, [], ◌∷◌, ◌++◌, length, take, drop, replicate, slice_index, nat_lt, if◌then◌else◌, Result, Ok, Err}
use Rattle.byteorder.specs.Endian.{little_number, little_bytes}
use Rattle.var_header.specs.declared.header.Header.{Header}
use Rattle.var_header.specs.declared.header_fault.HeaderFault.{HeaderFault}
use Rattle.var_header.specs.declared.header_fault.HeaderFault.TheVariants.{PastEnd, NoStart}

-- the bytes of the header of an authenticated record (EDK II, AUTHENTICATED_VARIABLE_HEADER)
abbrev pub authenticated_header_size : ℕ
authenticated_header_size = 60

-- whether bytes begin with the StartId 0x55AA, stored low byte first (EDK II, VARIABLE_DATA)
unfoldable pub has_start_id : List ℕ → Bool
has_start_id bytes = (slice_index bytes 0 == 0xAA) && (slice_index bytes 1 == 0x55)

-- the fields of the header that bytes begin with: State at 2, Attributes at 4, TimeStamp at 16, NameSize at 36, DataSize at 40, and VendorGuid
-- at 44 (EDK II, AUTHENTICATED_VARIABLE_HEADER)
unfoldable pub header_of : List ℕ → Header
header_of bytes = record {
  state = slice_index bytes 2;
  attributes = little_number 4 (drop 4 bytes);
  time_stamp = take 16 (drop 16 bytes);
  name_size = little_number 4 (drop 36 bytes);
  data_size = little_number 4 (drop 40 bytes);
  vendor_guid = take 16 (drop 44 bytes);
}

-- the header at an offset of bytes: it doesn't fit, there is no StartId, or its fields
unfoldable pub header_read : List ℕ → ℕ → Result Header HeaderFault
header_read bytes at =
    if nat_lt (length bytes) (at + authenticated_header_size) then Err (PastEnd at)
    else if has_start_id (drop at bytes) then Ok (header_of (drop at bytes))
    else Err NoStart

-- the bytes of a header up to its PubKeyIndex: the StartId, State, a reserved byte 0, Attributes, a MonotonicCount of 0, TimeStamp, and a
-- PubKeyIndex of 0
abbrev pub front_bytes : Header → List ℕ
front_bytes h = (0xAA ∷ 0x55 ∷ h.state ∷ 0 ∷ []) ++ little_bytes 4 h.attributes ++ replicate 8 0 ++ h.time_stamp ++ replicate 4 0

-- the bytes of a header from its sizes on: NameSize, DataSize, and VendorGuid
abbrev pub back_bytes : Header → List ℕ
back_bytes h = little_bytes 4 h.name_size ++ little_bytes 4 h.data_size ++ h.vendor_guid

-- the bytes of a header (EDK II, AUTHENTICATED_VARIABLE_HEADER)
unfoldable pub header_bytes : Header → List ℕ
header_bytes h = front_bytes h ++ back_bytes h

-- the fields are values of their types, as those of a program always are
pub record IsHeader (h : Header) : Type 0 where
  pub state : h.state < 2 ^ 8
  pub attributes : h.attributes < 2 ^ 32
  pub time_stamp : length h.time_stamp ≡ 16
  pub name_size : h.name_size < 2 ^ 32
  pub data_size : h.data_size < 2 ^ 32
  pub vendor_guid : length h.vendor_guid ≡ 16

-- what is written is read again, whatever follows it
abbrev pub HeadersReadBack : Type 0
HeadersReadBack = (h : Header) (rest : List ℕ) → IsHeader h → header_read (header_bytes h ++ rest) 0 ≡ Ok h
