-- The bytes of a policy's entry, both ways.
use Rattle.byteorder.specs.Endian.{little_bytes}
use Rattle.std.specs.Prelude.{◌≡◌, ℕ, ◌+◌, ◌*◌, ◌^◌, ◌<◌, ◌≤◌, ◌==◌, ◌&&◌, ◌||◌, not, Bool, false, List, [], ◌∷◌, ◌++◌, length, take, drop, position, count_by, flat_map, nat_le, nat_lt, if◌then◌else◌, Option, Some, None, Result, Ok, Err, IfSome, unwrap_or, slice_index}
use Rattle.var_types.specs.declared.entry_fault.EntryFault.{EntryFault}
use Rattle.var_types.specs.declared.entry_fault.EntryFault.TheVariants.{Size, Version, LockType, NameForm, Offset, Wildcards, MinAboveMax}
use Rattle.var_types.specs.declared.guid.Guid.{Guid}
use Rattle.var_types.specs.declared.policy.Lock.{Lock}
use Rattle.var_types.specs.declared.policy.Lock.TheVariants.{NoLock, Now, OnCreate, OnState}
use Rattle.var_types.specs.declared.policy.Policy.{Policy}
use Rattle.var_types.specs.Descriptor.{field_of}
use Rattle.var_types.specs.Guid.{IsGuid}
use Rattle.var_types.specs.Key.{key_of}
use Rattle.var_types.specs.Layout.{longest_name}
use Rattle.var_types.specs.Live.{units_in}
use Rattle.var_types.specs.Name.{name_check}
use Rattle.var_types.specs.Policies.{is_wildcard}
use Rattle.var_types.specs.Values.{AreUnits}

-- the bytes before what follows an entry's fixed fields (EDK II, VARIABLE_POLICY_ENTRY)
abbrev pub entry_header_size : ℕ
entry_header_size = 44

-- the same with the fixed fields of a lock by a variable's state (EDK II, VARIABLE_LOCK_ON_VAR_STATE_POLICY)
abbrev pub state_header_size : ℕ
state_header_size = 62

-- the most wildcards of a name (this project's own)
abbrev pub most_wildcards : ℕ
most_wildcards = 254

-- LockPolicyType: 0 is no lock, 1 a lock now, 2 on create, 3 on a variable's state (EDK II, VARIABLE_POLICY_TYPE_NO_LOCK and the others)
abbrev pub lock_type_of : List ℕ → ℕ
lock_type_of bytes = slice_index bytes 40

-- whether an entry locks on a variable's state (EDK II, VARIABLE_POLICY_TYPE_LOCK_ON_VAR_STATE)
abbrev pub locks_on_state : List ℕ → Bool
locks_on_state bytes = lock_type_of bytes == 3

-- the GUID at an offset
abbrev pub guid_at : List ℕ → ℕ → Guid
guid_at bytes at = record { bytes = take 16 (drop at bytes) }

-- how many units stand before the first NUL from an offset on; none where there is no NUL
abbrev pub name_length : List ℕ → ℕ → Option ℕ
name_length bytes at = position (λ unit. unit == 0) (units_in (drop at bytes))

-- the first units from an offset on
abbrev pub units_at : List ℕ → ℕ → ℕ → List ℕ
units_at bytes at count = take count (units_in (drop at bytes))

-- whether the units before a NUL are 1 to 512, so that they are a well-formed name (UEFI 2.10, 8.2; the bound is this project's own)
abbrev pub is_name_length : ℕ → Bool
is_name_length count = nat_le 1 count && nat_le count longest_name

-- whether a name with its NUL stands there
abbrev pub is_name : Option ℕ → Bool
is_name None = false
is_name (Some count) = is_name_length count

-- the units of the name of the variable whose state locks
abbrev pub state_units : List ℕ → List ℕ
state_units bytes = units_at bytes state_header_size (unwrap_or (name_length bytes state_header_size) 0)

-- the offset behind the NUL of that variable's name
abbrev pub state_end : Option ℕ → ℕ
state_end found = state_header_size + 2 * unwrap_or found 0 + 2

-- the offset of an entry's name: behind its lock (EDK II, VARIABLE_POLICY_ENTRY, OffsetToName)
abbrev pub name_offset : List ℕ → ℕ
name_offset bytes = if locks_on_state bytes then state_end (name_length bytes state_header_size) else entry_header_size

-- whether an entry ends with its name and the NUL, or has no name: so many bytes follow the lock
abbrev pub ends_with_name : ℕ → Option ℕ → Bool
ends_with_name left None = left == 0
ends_with_name left (Some count) = is_name_length count && (left == 2 * count + 2)

-- the name of an entry; none covers all names of the namespace (EDK II, EvaluatePolicyMatch)
abbrev pub entry_name : List ℕ → Option ℕ → Option (List ℕ)
entry_name bytes None = None
entry_name bytes (Some count) = Some (units_at bytes (name_offset bytes) count)

-- how many wildcards the name of an entry has; it may have none
abbrev pub name_wildcards : Option (List ℕ) → ℕ
name_wildcards None = 0
name_wildcards (Some units) = count_by is_wildcard units

-- how many wildcards an entry's name has
abbrev pub entry_wildcards : List ℕ → ℕ
entry_wildcards bytes = name_wildcards (entry_name bytes (name_length bytes (name_offset bytes)))

-- whether an entry's size is wrong: a header isn't whole, or Size is another number
abbrev pub is_missized : List ℕ → Bool
is_missized bytes =
    nat_lt (length bytes) entry_header_size
    || (not (field_of bytes 4 2 == length bytes) || (locks_on_state bytes && nat_lt (length bytes) state_header_size))

-- whether what follows an entry's lock isn't a name
abbrev pub has_ill_name : List ℕ → Bool
has_ill_name bytes = not (ends_with_name (length (drop (name_offset bytes) bytes)) (name_length bytes (name_offset bytes)))

-- a fault, where a test holds
abbrev pub fault_if : Bool → EntryFault → Option EntryFault
fault_if holds fault = if holds then Some fault else None

-- the tests of an entry in the order in which they are made: Size, Version, LockPolicyType, the name of the variable whose state locks,
-- OffsetToName, the entry's own name, its wildcards, MinSize at 24 and MaxSize at 28 (EDK II, RegisterVariablePolicy; the order, the bound
-- of wildcards and the last test are this project's own)
unfoldable pub entry_tests : List ℕ → List (Option EntryFault)
entry_tests bytes =
    fault_if (is_missized bytes) Size
    ∷ fault_if (not (field_of bytes 0 4 == 0x00010000)) Version
    ∷ fault_if (nat_lt 3 (lock_type_of bytes)) (LockType (lock_type_of bytes))
    ∷ fault_if (locks_on_state bytes && not (is_name (name_length bytes state_header_size))) NameForm
    ∷ fault_if (not (field_of bytes 6 2 == name_offset bytes)) Offset
    ∷ fault_if (has_ill_name bytes) NameForm
    ∷ fault_if (nat_lt most_wildcards (entry_wildcards bytes)) (Wildcards (entry_wildcards bytes))
    ∷ fault_if (nat_lt (field_of bytes 28 4) (field_of bytes 24 4)) MinAboveMax
    ∷ []

-- the first fault of these tests
abbrev pub first_fault : List (Option EntryFault) → Option EntryFault
first_fault [] = None
first_fault (None ∷ tests) = first_fault tests
first_fault (Some fault ∷ tests) = Some fault

-- the lock of an entry, by its LockPolicyType: one on a variable's state has Namespace at 44, Value at 60 and Name at 62 (EDK II,
-- VARIABLE_LOCK_ON_VAR_STATE_POLICY)
abbrev pub lock_of : List ℕ → ℕ → Lock
lock_of bytes kind =
    if kind == 0 then NoLock
    else if kind == 1 then Now
    else if kind == 2 then OnCreate
    else OnState (key_of (guid_at bytes 44) (state_units bytes)) (slice_index bytes 60)

-- the policy of an entry's fields: Namespace at 8, MinSize at 24, MaxSize at 28, AttributesMustHave at 32, AttributesCantHave at 36,
-- LockPolicyType at 40 (EDK II, VARIABLE_POLICY_ENTRY)
unfoldable pub policy_of : List ℕ → Policy
policy_of bytes = record {
  namespace = guid_at bytes 8;
  name = entry_name bytes (name_length bytes (name_offset bytes));
  min = field_of bytes 24 4;
  max = field_of bytes 28 4;
  must = field_of bytes 32 4;
  cant = field_of bytes 36 4;
  lock = lock_of bytes (lock_type_of bytes);
}

-- the policy of bytes whose first fault is known
abbrev pub entry_read : List ℕ → Option EntryFault → Result Policy EntryFault
entry_read bytes None = Ok (policy_of bytes)
entry_read bytes (Some fault) = Err fault

-- the policy whose entry bytes are, or the first test that refuses them (EDK II, VARIABLE_POLICY_ENTRY)
unfoldable pub entry_of : List ℕ → Result Policy EntryFault
entry_of bytes = entry_read bytes (first_fault (entry_tests bytes))

-- a name as bytes, low byte first, with its NUL (UEFI 2.10, 2.3.1, CHAR16)
abbrev pub nul_ended : List ℕ → List ℕ
nul_ended units = flat_map (little_bytes 2) units ++ 0 ∷ 0 ∷ []

-- the name of an entry as bytes: none has none
abbrev pub name_field : Option (List ℕ) → List ℕ
name_field None = []
name_field (Some units) = nul_ended units

-- LockPolicyType (EDK II, VARIABLE_POLICY_TYPE_NO_LOCK and the others)
abbrev pub lock_type : Lock → ℕ
lock_type NoLock = 0
lock_type Now = 1
lock_type OnCreate = 2
lock_type (OnState key value) = 3

-- what follows the fixed fields for a lock: of one on a variable's state Namespace, Value, a byte of padding and Name (EDK II,
-- VARIABLE_LOCK_ON_VAR_STATE_POLICY)
abbrev pub lock_field : Lock → List ℕ
lock_field NoLock = []
lock_field Now = []
lock_field OnCreate = []
lock_field (OnState key value) = key.guid.bytes ++ (value ∷ 0 ∷ []) ++ nul_ended key.name

-- OffsetToName: what stands before the name
abbrev pub offset_to_name : Policy → ℕ
offset_to_name policy = entry_header_size + length (lock_field policy.lock)

-- Size: all bytes of an entry
abbrev pub entry_size : Policy → ℕ
entry_size policy = offset_to_name policy + length (name_field policy.name)

-- the fixed fields of an entry: Version, Size, OffsetToName, Namespace, MinSize, MaxSize, AttributesMustHave, AttributesCantHave,
-- LockPolicyType and three bytes of padding (EDK II, VARIABLE_POLICY_ENTRY)
abbrev pub entry_header : Policy → List ℕ
entry_header policy =
    little_bytes 4 0x00010000 ++ little_bytes 2 (entry_size policy) ++ little_bytes 2 (offset_to_name policy) ++ policy.namespace.bytes
    ++ little_bytes 4 policy.min ++ little_bytes 4 policy.max ++ little_bytes 4 policy.must ++ little_bytes 4 policy.cant
    ++ (lock_type policy.lock ∷ 0 ∷ 0 ∷ 0 ∷ [])

-- the bytes of a policy's entry, with each byte of padding 0 (EDK II, VARIABLE_POLICY_ENTRY)
unfoldable pub entry_bytes : Policy → List ℕ
entry_bytes policy = entry_header policy ++ lock_field policy.lock ++ name_field policy.name

-- a well-formed name of a program's units
abbrev pub IsNameOfUnits : List ℕ → Type 0
IsNameOfUnits units = (name_check units ≡ Ok tt) × AreUnits units

-- a lock that an entry can spell
abbrev pub CanSpellLock : Lock → Type 0
CanSpellLock NoLock = Unit {0}
CanSpellLock Now = Unit {0}
CanSpellLock OnCreate = Unit {0}
CanSpellLock (OnState key value) = IsGuid key.guid × IsNameOfUnits key.name × (value < 2 ^ 8)

-- a policy that an entry can spell: its names are well-formed, its wildcards 254 at most, its least size no greater than its greatest,
-- and its parts values of their types (EDK II, VARIABLE_POLICY_ENTRY; the bound of wildcards is this project's own)
pub record CanSpell (policy : Policy) : Type 0 where
  pub namespace : IsGuid policy.namespace
  pub name : IfSome policy.name IsNameOfUnits
  pub wildcards : IfSome policy.name (λ units. count_by is_wildcard units ≤ most_wildcards)
  pub sizes : policy.min ≤ policy.max
  pub max : policy.max < 2 ^ 32
  pub must : policy.must < 2 ^ 32
  pub cant : policy.cant < 2 ^ 32
  pub lock : CanSpellLock policy.lock
