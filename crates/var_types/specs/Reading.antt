-- A set as the set rule reads it: what its bytes begin with, whether it deletes, and which variable it makes.
use Rattle.std.specs.Prelude.{ℕ, ◌==◌, ◌&&◌, ◌||◌, not, Bool, List, [], ◌++◌, length, drop, if◌then◌else◌, Option, Some, None, Result, Ok, Err}
use Rattle.var_types.specs.declared.call.SetCall.{SetCall}
use Rattle.var_types.specs.declared.descriptor.Descriptor.{Descriptor}
use Rattle.var_types.specs.declared.descriptor.DescriptorFault.{DescriptorFault}
use Rattle.var_types.specs.declared.key.Key.{Key}
use Rattle.var_types.specs.declared.stamp.Stamp.{Stamp}
use Rattle.var_types.specs.declared.variable.Variable.{Variable}
use Rattle.var_types.specs.Attributes.{has_access, is_append, is_time_based, without_append}
use Rattle.var_types.specs.Descriptor.{descriptor_of}
use Rattle.var_types.specs.Key.{key_of}
use Rattle.var_types.specs.Stamps.{later_of, no_stamp}
use Rattle.var_types.specs.State.{State, stored_at}

-- the key that a set names (UEFI 2.10, 8.2.3)
abbrev pub set_key : SetCall → Key
set_key call = key_of call.guid call.name

-- a set as the rule reads it: the call, what is stored at its key, the descriptor that its bytes begin with, and the payload behind that
-- (UEFI 2.10, 8.2.3)
pub record Reading : Type 0 where
  pub call : SetCall
  pub stored : Option Variable
  pub front : Result Descriptor DescriptorFault
  pub payload : List ℕ

-- the descriptor that a set's bytes begin with: one of no bytes and no stamp, where the set is not time-based (UEFI 2.10, 8.2,
-- EFI_VARIABLE_AUTHENTICATION_2)
abbrev pub front_of : SetCall → Result Descriptor DescriptorFault
front_of call = if is_time_based call.attributes then descriptor_of call.bytes else Ok (record { stamp = no_stamp; length = 0 })

-- how many bytes stand before the payload: nothing follows a broken descriptor (this project's own)
abbrev pub skip_of : List ℕ → Result Descriptor DescriptorFault → ℕ
skip_of bytes (Ok descriptor) = descriptor.length
skip_of bytes (Err fault) = length bytes

-- a set as the rule reads it in a state
abbrev pub reading_of : State → SetCall → Reading
reading_of state call = record {
  call = call;
  stored = stored_at state (set_key call);
  front = front_of call;
  payload = drop (skip_of call.bytes (front_of call)) call.bytes;
}

-- the stamp of a descriptor; none of a broken one
abbrev pub stamp_of : Result Descriptor DescriptorFault → Stamp
stamp_of (Ok descriptor) = descriptor.stamp
stamp_of (Err fault) = no_stamp

-- whether a set of these attributes and this payload deletes: it has no access bit, or appends nothing and has no payload
-- (UEFI 2.10, 8.2.3)
abbrev pub is_deletion : ℕ → List ℕ → Bool
is_deletion attributes payload = not (has_access attributes) || ((length payload == 0) && not (is_append attributes))

-- whether a set deletes (UEFI 2.10, 8.2.3)
unfoldable pub deletes : Reading → Bool
deletes set = is_deletion set.call.attributes set.payload

-- the bytes that stay before the payload: what is stored, where the set appends (UEFI 2.10, 8.2.3)
abbrev pub kept_bytes : Bool → Option Variable → List ℕ
kept_bytes append None = []
kept_bytes append (Some variable) = if append then variable.bytes else []

-- the stamp that the variable gets: an append keeps the later of the stored one and its own (UEFI 2.10, 8.2,
-- EFI_VARIABLE_AUTHENTICATION_2)
abbrev pub kept_stamp : Bool → Option Variable → Stamp → Stamp
kept_stamp append None new = new
kept_stamp append (Some variable) new = if append then later_of new variable.stamp else new

-- the variable that a set makes: its attributes without the bit of an append, its payload behind the bytes that stay, and the stamp of a
-- time-based set, else none (UEFI 2.10, 8.2.3)
unfoldable pub made_of : Reading → Variable
made_of set = record {
  attributes = without_append set.call.attributes;
  bytes = kept_bytes (is_append set.call.attributes) set.stored ++ set.payload;
  stamp = kept_stamp (is_time_based set.call.attributes && is_append set.call.attributes) set.stored (stamp_of set.front);
}
