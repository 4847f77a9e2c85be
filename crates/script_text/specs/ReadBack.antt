use Rattle.std.specs.Prelude.{◌≡◌, ℕ, ◌+◌, ◌^◌, ◌<◌, ◌≤◌, List, [], ◌∷◌, ◌++◌, length, codes, Ok}
use Rattle.var_types.specs.declared.call.Call.{Call}
use Rattle.var_types.specs.declared.call.Call.TheVariants as call
use Rattle.var_types.specs.declared.call.SetCall.{SetCall}
use Rattle.var_types.specs.declared.guid.Guid.{Guid}
use Rattle.var_types.specs.declared.policy_call.PolicyCall.{PolicyCall}
use Rattle.var_types.specs.declared.policy_call.PolicyCall.TheVariants as policy
use Rattle.var_types.specs.Guid.{IsGuid}
use Rattle.var_types.specs.Layout.{most_units}
use Rattle.var_types.specs.Values.{AreBytes, AreUnits}
use Rattle.script_text.specs.Script.{most_script_bytes, script_of, with_call}
use Rattle.script_text.specs.Texts.{call_text}

-- the units of a call's name: no more than it may have, each of 16 bits
abbrev pub IsCallName : List ℕ → Type 0
IsCallName units = (length units ≤ most_units) × AreUnits units

-- the parts of a get or of a next are values of their types
pub record IsReadableFind (guid : Guid) (name : List ℕ) (room : ℕ) : Type 0 where
  pub guid_fits : IsGuid guid
  pub name_fits : IsCallName name
  pub room_fits : room < 2 ^ 32

-- the parts of a set are values of their types
pub record IsReadableSet (call : SetCall) : Type 0 where
  pub guid_fits : IsGuid call.guid
  pub name_fits : IsCallName call.name
  pub attributes_fit : call.attributes < 2 ^ 32
  pub bytes_fit : AreBytes call.bytes

-- the parts of a call about the policies are values of their types
abbrev pub IsReadablePolicy : PolicyCall → Type 0
IsReadablePolicy (policy.Register bytes) = AreBytes bytes
IsReadablePolicy (policy.At place) = place < 2 ^ 32
IsReadablePolicy _ = Unit {0}

-- the parts of a call are values of their types
abbrev pub IsReadable : Call → Type 0
IsReadable (call.Get c) = IsReadableFind c.guid c.name c.room
IsReadable (call.Next c) = IsReadableFind c.guid c.name c.room
IsReadable (call.Set c) = IsReadableSet c
IsReadable (call.Policy c) = IsReadablePolicy c
IsReadable call.ExitBoot = Unit {0}

-- the word of a processor's number: its digit
abbrev pub processor_word : ℕ → List ℕ
processor_word processor = (48 + processor) ∷ []

-- the line of a processor's call, without its line end
abbrev pub line_of : ℕ → Call → List ℕ
line_of processor call = processor_word processor ++ codes " " ++ call_text call

-- the line of a call of processor 0 to 7 reads back as the call (this project's own)
abbrev pub CallsReadBack : Type 0
CallsReadBack =
    (processor : ℕ) (call : Call) → processor < 8 → IsReadable call → length (line_of processor call) ≤ most_script_bytes
    → script_of (line_of processor call) ≡ Ok (with_call ([] ∷ []) processor call)

-- so does the line with its line end
abbrev pub EndedCallsReadBack : Type 0
EndedCallsReadBack =
    (processor : ℕ) (call : Call) → processor < 8 → IsReadable call → length (line_of processor call ++ 10 ∷ []) ≤ most_script_bytes
    → script_of (line_of processor call ++ 10 ∷ []) ≡ Ok (with_call ([] ∷ []) processor call)
