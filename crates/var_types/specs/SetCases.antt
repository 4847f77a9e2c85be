-- The cases of the set rule, each over what it may read.
use Rattle.std.specs.Prelude.{ℕ, ◌==◌, ◌&&◌, ◌||◌, not, Bool, true, false, List, ◌++◌, length, bit_and, nat_le, nat_lt, if◌then◌else◌, Option, Some, None, is_some, Result, Ok, Err}
use lib.Pointwise.{pointwise}
use Rattle.var_types.specs.declared.ask.Denied.{Denied}
use Rattle.var_types.specs.declared.decision.Decision.{Decision}
use Rattle.var_types.specs.declared.decision.Decision.TheVariants.{Refuse, Same}
use Rattle.var_types.specs.declared.descriptor.Descriptor.{Descriptor}
use Rattle.var_types.specs.declared.descriptor.DescriptorFault.{DescriptorFault}
use Rattle.var_types.specs.declared.name.NameFault.{NameFault}
use Rattle.var_types.specs.declared.set_reason.SetReason.{SetReason}
use Rattle.var_types.specs.declared.set_reason.SetReason.TheVariants.{Name, Unsupported, Unknown, RuntimeWithoutBoot, Hidden, VolatileAtRuntime, RuntimeNeedsNonVolatile, Descriptor as BrokenDescriptor, Size, Denied as DeniedByPolicy, Missing, NeedsAuthentication, AttributesDiffer, Verdict as BadVerdict, Stamp as OldStamp, AppendSize, Room, HistoryFull}
use Rattle.var_types.specs.declared.stamp.Stamp.{Stamp}
use Rattle.var_types.specs.declared.variable.Variable.{Variable}
use Rattle.var_types.specs.declared.verdict.Verdict.{Verdict}
use Rattle.var_types.specs.declared.verdict.Verdict.TheVariants.{Bad, Good}
use Rattle.var_types.specs.Attributes.{authenticated_bits, boot_access_bit, has, has_access, is_append, is_time_based, non_volatile_bit, runtime_access_bit, time_based_bit, unknown_bits, unsupported_bits, without_append}
use Rattle.var_types.specs.Layout.{largest_record}
use Rattle.var_types.specs.Room.{record_size}
use Rattle.var_types.specs.Stamps.{is_later}

-- a refusal, where a test holds
abbrev pub refuse_if : Bool → SetReason → Option Decision
refuse_if holds reason = if holds then Some (Refuse reason) else None

-- whether something is stored that lacks a bit
abbrev pub stored_lacks : Option Variable → ℕ → Bool
stored_lacks None bit = false
stored_lacks (Some variable) bit = not (has variable.attributes bit)

-- the name is ill-formed (UEFI 2.10, 8.2.3, INVALID_PARAMETER)
unfoldable pub name_case : Result (Unit {0}) NameFault → Option Decision
name_case (Ok u) = None
name_case (Err fault) = Some (Refuse (Name fault))

-- the attributes have a bit of a write that isn't done here (UEFI 2.10, 8.2.3, UNSUPPORTED)
unfoldable pub unsupported_case : ℕ → Option Decision
unsupported_case attributes = refuse_if (has attributes unsupported_bits) (Unsupported (bit_and attributes unsupported_bits))

-- the attributes have a bit that no attribute has (UEFI 2.10, 8.2.3, INVALID_PARAMETER)
unfoldable pub unknown_case : ℕ → Option Decision
unknown_case attributes = refuse_if (has attributes unknown_bits) (Unknown (bit_and attributes unknown_bits))

-- the attributes ask for runtime access without boot access (UEFI 2.10, 8.2.3, INVALID_PARAMETER)
unfoldable pub runtime_without_boot_case : ℕ → Option Decision
runtime_without_boot_case attributes =
    refuse_if (has attributes runtime_access_bit && not (has attributes boot_access_bit)) RuntimeWithoutBoot

-- at runtime, what is stored is hidden from callers (UEFI 2.10, 8.2.3, INVALID_PARAMETER)
unfoldable pub hidden_case : Bool → Option Variable → Option Decision
hidden_case runtime stored = refuse_if (runtime && stored_lacks stored runtime_access_bit) Hidden

-- at runtime, what is stored is a volatile variable (UEFI 2.10, 8.2.3, WRITE_PROTECTED)
unfoldable pub volatile_case : Bool → Option Variable → Option Decision
volatile_case runtime stored = refuse_if (runtime && stored_lacks stored non_volatile_bit) VolatileAtRuntime

-- at runtime, nothing is stored, and the set makes no non-volatile variable that callers see (UEFI 2.10, 8.2.3, INVALID_PARAMETER)
unfoldable pub runtime_new_case : Bool → Option Variable → ℕ → Bool → Option Decision
runtime_new_case runtime stored attributes deletion =
    refuse_if
    (runtime && (not (is_some stored) && (not deletion && not (has attributes non_volatile_bit && has attributes runtime_access_bit))))
    RuntimeNeedsNonVolatile

-- the descriptor of a time-based set is broken (UEFI 2.10, 8.2.3, SECURITY_VIOLATION)
unfoldable pub descriptor_case : Result Descriptor DescriptorFault → Option Decision
descriptor_case (Ok descriptor) = None
descriptor_case (Err fault) = Some (Refuse (BrokenDescriptor fault.at))

-- the record with the payload is larger than a record may be (UEFI 2.10, 8.2.3, INVALID_PARAMETER; the bound is this project's own)
unfoldable pub size_case : List ℕ → List ℕ → Option Decision
size_case name payload = refuse_if (nat_lt largest_record (record_size name payload)) (Size (record_size name payload) largest_record)

-- a policy denies the set (EDK II, VariablePolicyLib)
unfoldable pub denied_case : Option Denied → Option Decision
denied_case None = None
denied_case (Some denial) = Some (Refuse (DeniedByPolicy denial.place denial.rule))

-- nothing is stored, and the set deletes, or appends nothing (UEFI 2.10, 8.2.3, NOT_FOUND)
unfoldable pub missing_case : Option Variable → Bool → List ℕ → Option Decision
missing_case stored deletion payload = refuse_if (not (is_some stored) && (deletion || (length payload == 0))) Missing

-- whether a set of these attributes lacks the authentication that what is stored asks for (UEFI 2.10, 8.2.3)
abbrev pub needs_authentication : Option Variable → ℕ → Bool
needs_authentication None attributes = false
needs_authentication (Some variable) attributes =
    has variable.attributes authenticated_bits || (has variable.attributes time_based_bit && not (has attributes time_based_bit))

-- what is stored may be changed by an authenticated set alone (UEFI 2.10, 8.2.3, WRITE_PROTECTED)
unfoldable pub authentication_case : Option Variable → ℕ → Option Decision
authentication_case stored attributes = refuse_if (needs_authentication stored attributes) NeedsAuthentication

-- the set has other attributes than what is stored, and doesn't delete by having no access bit (UEFI 2.10, 8.2.3, INVALID_PARAMETER)
unfoldable pub differ_case : Option Variable → ℕ → Option Decision
differ_case None attributes = None
differ_case (Some variable) attributes =
    refuse_if (has_access attributes && not (without_append attributes == variable.attributes))
    (AttributesDiffer variable.attributes (without_append attributes))

-- whether a verdict is bad
abbrev pub is_bad : Verdict → Bool
is_bad Good = false
is_bad Bad = true

-- the signature of a time-based set was found to be bad (UEFI 2.10, 8.2.3, SECURITY_VIOLATION)
unfoldable pub verdict_case : ℕ → Verdict → Option Decision
verdict_case attributes verdict = refuse_if (is_time_based attributes && is_bad verdict) BadVerdict

-- the stamp of a time-based set that doesn't append isn't later than the stored one (UEFI 2.10, 8.2.3, SECURITY_VIOLATION)
unfoldable pub stamp_case : ℕ → Option Variable → Stamp → Option Decision
stamp_case attributes None new = None
stamp_case attributes (Some variable) new =
    refuse_if (is_time_based attributes && (not (is_append attributes) && not (is_later new variable.stamp))) (OldStamp variable.stamp new)

-- the record with the stored bytes and the payload behind them is larger than a record may be (UEFI 2.10, 8.2.3, INVALID_PARAMETER; the
-- bound is this project's own)
unfoldable pub append_size_case : List ℕ → ℕ → Bool → Option Variable → List ℕ → Option Decision
append_size_case name attributes deletion None payload = None
append_size_case name attributes deletion (Some variable) payload =
    refuse_if (not deletion && (is_append attributes && nat_lt largest_record (record_size name (variable.bytes ++ payload))))
    (AppendSize (record_size name (variable.bytes ++ payload)) largest_record)

-- whether two variables are equal
abbrev pub same_variable : Variable → Variable → Bool
same_variable v w =
    (v.attributes == w.attributes) && (pointwise ◌==◌ v.bytes w.bytes && pointwise ◌==◌ v.stamp.bytes w.stamp.bytes)

-- the set makes the variable that is stored (this project's own: nothing is written)
unfoldable pub same_case : Bool → Option Variable → Variable → Option Decision
same_case deletion None made = None
same_case deletion (Some variable) made = if not deletion && same_variable variable made then Some Same else None

-- the store has less room than its variables would need (UEFI 2.10, 8.2.3, OUT_OF_RESOURCES; the room is this project's own)
unfoldable pub room_case : Bool → ℕ → ℕ → Option Decision
room_case deletion need have = refuse_if (not deletion && nat_lt have need) (Room need have)

-- the history holds no more changes (this project's own)
unfoldable pub history_case : ℕ → ℕ → Option Decision
history_case made limit = refuse_if (nat_le limit made) (HistoryFull made)
