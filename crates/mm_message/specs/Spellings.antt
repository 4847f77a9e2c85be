-- Request messages: which bytes a call is (this project's own format).
use Rattle.byteorder.specs.Endian.{little_bytes}
use Rattle.std.specs.Prelude.{ℕ, ◌+◌, ◌^◌, ◌<◌, ◌≤◌, List, [], ◌∷◌, ◌++◌, length, flat_map}
use Rattle.mm_message.specs.Messages.{last_processor, length_size, longest_message}
use Rattle.var_types.specs.declared.call.Call.{Call}
use Rattle.var_types.specs.declared.call.Call.TheVariants.{Get, Next, Set, Policy, ExitBoot}
use Rattle.var_types.specs.declared.call.SetCall.{SetCall}
use Rattle.var_types.specs.declared.guid.Guid.{Guid}
use Rattle.var_types.specs.declared.policy_call.PolicyCall.{PolicyCall}
use Rattle.var_types.specs.declared.policy_call.PolicyCall.TheVariants.{Register, Lock, Disable, Enabled, At}
use Rattle.var_types.specs.declared.verdict.Verdict.{Verdict}
use Rattle.var_types.specs.declared.verdict.Verdict.TheVariants.{Good, Bad}
use Rattle.var_types.specs.Guid.{IsGuid}
use Rattle.var_types.specs.Layout.{most_units}
use Rattle.var_types.specs.Values.{AreBytes, AreUnits}

-- the units of a name as bytes, low byte first (UEFI 2.10, 2.3.1, CHAR16)
abbrev pub name_bytes : List ℕ → List ℕ
name_bytes units = flat_map (little_bytes 2) units

-- the byte of a verdict
abbrev pub verdict_byte : Verdict → ℕ
verdict_byte Good = 0
verdict_byte Bad = 1

-- the body of a get or a next: GUID, room, name
abbrev pub find_body : Guid → ℕ → List ℕ → List ℕ
find_body guid room name = guid.bytes ++ (little_bytes 4 room ++ name_bytes name)

-- the body of a set: GUID, attributes, verdict, the number of units, name, data
abbrev pub set_body : SetCall → List ℕ
set_body call =
    call.guid.bytes
    ++ (little_bytes 4 call.attributes ++ (verdict_byte call.verdict ∷ (little_bytes 2 (length call.name) ++ (name_bytes call.name ++ call.bytes))))

-- the kind and the body of a call about the policies
abbrev pub policy_body : PolicyCall → List ℕ
policy_body (Register entry) = 3 ∷ entry
policy_body Lock = 4 ∷ []
policy_body Disable = 5 ∷ []
policy_body Enabled = 6 ∷ []
policy_body (At place) = 7 ∷ little_bytes 4 place

-- the kind and the body of a call
abbrev pub body_of : Call → List ℕ
body_of (Get call) = 0 ∷ find_body call.guid call.room call.name
body_of (Next call) = 1 ∷ find_body call.guid call.room call.name
body_of (Set call) = 2 ∷ set_body call
body_of (Policy call) = policy_body call
body_of ExitBoot = 8 ∷ []

-- how many bytes a message has behind its length
abbrev pub size_of : Call → ℕ
size_of call = 1 + length (body_of call)

-- the bytes of a message: length, processor, kind, body
unfoldable pub spelling : ℕ → Call → List ℕ
spelling processor call = little_bytes length_size (size_of call) ++ (processor ∷ body_of call)

-- the fields of a get or a next that a message can spell
pub record FitsFind (guid : Guid) (room : ℕ) (name : List ℕ) : Type 0 where
  pub guid_is : IsGuid guid
  pub room_is : room < 2 ^ 32
  pub units : AreUnits name
  pub few : length name ≤ most_units

-- a set that a message can spell
pub record FitsSet (call : SetCall) : Type 0 where
  pub guid_is : IsGuid call.guid
  pub attributes_are : call.attributes < 2 ^ 32
  pub units : AreUnits call.name
  pub few : length call.name ≤ most_units
  pub bytes_are : AreBytes call.bytes

-- a call about the policies that a message can spell
abbrev pub FitsPolicy : PolicyCall → Type 0
FitsPolicy (Register entry) = AreBytes entry
FitsPolicy Lock = Unit {0}
FitsPolicy Disable = Unit {0}
FitsPolicy Enabled = Unit {0}
FitsPolicy (At place) = place < 2 ^ 32

-- a call whose parts a message can spell
abbrev pub FitsCall : Call → Type 0
FitsCall (Get call) = FitsFind call.guid call.room call.name
FitsCall (Next call) = FitsFind call.guid call.room call.name
FitsCall (Set call) = FitsSet call
FitsCall (Policy call) = FitsPolicy call
FitsCall ExitBoot = Unit {0}

-- a processor and a call that a message can spell
pub record Fits (processor : ℕ) (call : Call) : Type 0 where
  pub processor_is : processor ≤ last_processor
  pub call_is : FitsCall call
  pub size : size_of call ≤ longest_message
