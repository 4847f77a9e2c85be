-- Request messages: which bytes are which call (this project's own format).
use Rattle.byteorder.specs.Endian.{little_number}
use Rattle.std.specs.Prelude.{◌≡◌, ℕ, ◌+◌, ◌*◌, ◌%◌, ◌==◌, ◌&&◌, ◌||◌, Bool, true, false, List, length, take, drop, nat_le, nat_lt, if◌then◌else◌, Option, Some, None, Result, Ok, Err, slice_index}
use Rattle.mm_message.specs.declared.message_fault.MessageFault.{MessageFault}
use Rattle.mm_message.specs.declared.message_fault.MessageFault.TheVariants.{Length, Processor, Kind, Form, Cut}
use Rattle.mm_message.specs.declared.taken.Taken.{Taken}
use Rattle.mm_message.specs.declared.taken.Taken.TheVariants.{Request, More, Fault, OutOfMemory}
use Rattle.var_types.specs.declared.call.Call.{Call}
use Rattle.var_types.specs.declared.call.Call.TheVariants.{Get, Next, Set, Policy, ExitBoot}
use Rattle.var_types.specs.declared.call.GetCall.{GetCall}
use Rattle.var_types.specs.declared.call.NextCall.{NextCall}
use Rattle.var_types.specs.declared.call.SetCall.{SetCall}
use Rattle.var_types.specs.declared.policy_call.PolicyCall.TheVariants.{Register, Lock, Disable, Enabled, At}
use Rattle.var_types.specs.declared.verdict.Verdict.{Verdict}
use Rattle.var_types.specs.declared.verdict.Verdict.TheVariants.{Good, Bad}
use Rattle.var_types.specs.Descriptor.{field_of}
use Rattle.var_types.specs.Layout.{most_units}
use Rattle.var_types.specs.Live.{units_in}
use Rattle.var_types.specs.PolicyEntry.{guid_at}

-- the length before a message
abbrev pub length_size : ℕ
length_size = 4

-- the most bytes that a length may say
abbrev pub longest_message : ℕ
longest_message = 65536

-- the most bytes that are held: the longest message and its length
abbrev pub most_held : ℕ
most_held = 65540

-- the highest number of a processor
abbrev pub last_processor : ℕ
last_processor = 7

-- the highest kind of a message
abbrev pub last_kind : ℕ
last_kind = 8

-- bytes that may be a name: an even number of them, and 1,024 units at most
abbrev pub is_name : List ℕ → Bool
is_name bytes = (length bytes % 2 == 0) && nat_le (length bytes) 2048

-- a body that may be a get's or a next's: a GUID, a room, and a name to the end
abbrev pub is_find : List ℕ → Bool
is_find body = nat_le 20 (length body) && is_name (drop 20 body)

-- the get of a body: GUID at 0, room at 16, name at 20
unfoldable pub get_call : List ℕ → GetCall
get_call body = record { guid = guid_at body 0; name = units_in (drop 20 body); room = field_of body 16 4 }

-- the next of a body, which has the same fields
unfoldable pub next_call : List ℕ → NextCall
next_call body = record { guid = guid_at body 0; name = units_in (drop 20 body); room = field_of body 16 4 }

-- how many units the name of a set's body has
abbrev pub set_units : List ℕ → ℕ
set_units body = field_of body 21 2

-- a body that may be a set's: its first 23 bytes stand whole, the verdict is known, and the name has 1,024 units at most and stands whole
abbrev pub is_set : List ℕ → Bool
is_set body = nat_le 23 (length body) && nat_le (slice_index body 20) 1 && nat_le (set_units body) most_units && nat_le (23 + 2 * set_units body) (length body)

-- the verdict of a byte: 0 is good, 1 bad
abbrev pub verdict_of : ℕ → Verdict
verdict_of byte = if byte == 0 then Good else Bad

-- the set of a body: GUID at 0, attributes at 16, verdict at 20, the number of units at 21, the units at 23, and data to the end
unfoldable pub set_call : List ℕ → SetCall
set_call body = record {
  guid = guid_at body 0;
  name = units_in (take (2 * set_units body) (drop 23 body));
  attributes = field_of body 16 4;
  bytes = drop (23 + 2 * set_units body) body;
  verdict = verdict_of (slice_index body 20);
}

-- a call whose body is empty
abbrev pub alone : Call → List ℕ → Option Call
alone call body = if length body == 0 then Some call else None

-- the calls with a name, by their bodies
unfoldable pub get_in : List ℕ → Option Call
get_in body = if is_find body then Some (Get (get_call body)) else None

unfoldable pub next_in : List ℕ → Option Call
next_in body = if is_find body then Some (Next (next_call body)) else None

unfoldable pub set_in : List ℕ → Option Call
set_in body = if is_set body then Some (Set (set_call body)) else None

-- the call for the entry at a place, which is the body
unfoldable pub place_in : List ℕ → Option Call
place_in body = if length body == 4 then Some (Policy (At (little_number 4 body))) else None

-- the other calls, by kind: 3 registers an entry, which is the body, whatever it is; 4 locks the policies, 5 disables them, 6 asks whether
-- they are enabled, 7 asks for an entry; 8 ends the boot phase
unfoldable pub other_in : ℕ → List ℕ → Option Call
other_in kind body =
    if kind == 3 then Some (Policy (Register body))
    else if kind == 4 then alone (Policy Lock) body
    else if kind == 5 then alone (Policy Disable) body
    else if kind == 6 then alone (Policy Enabled) body
    else if kind == 7 then place_in body
    else alone ExitBoot body

-- the call of a body, by the message's kind: 0 is a get, 1 a next, 2 a set; none where the body isn't of the kind's form
unfoldable pub call_in : ℕ → List ℕ → Option Call
call_in kind body =
    if kind == 0 then get_in body
    else if kind == 1 then next_in body
    else if kind == 2 then set_in body
    else other_in kind body

-- a message whose body was read
abbrev pub formed : ℕ → ℕ → Option Call → Taken
formed processor kind None = Fault (Form kind)
formed processor kind (Some call) = Request processor call

-- a whole message, of two bytes at least: processor, kind, body; the first fault of the processor, the kind and the body's form
unfoldable pub message_in : List ℕ → Taken
message_in message =
    if nat_lt last_processor (slice_index message 0) then Fault (Processor (slice_index message 0))
    else if nat_lt last_kind (slice_index message 1) then Fault (Kind (slice_index message 1))
    else formed (slice_index message 0) (slice_index message 1) (call_in (slice_index message 1) (drop 2 message))

-- the length before a message, the lowest byte first
abbrev pub size_in : List ℕ → ℕ
size_in bytes = little_number length_size bytes

-- a length that no message has
abbrev pub is_missized : ℕ → Bool
is_missized size = nat_lt size 2 || nat_lt longest_message size

-- what is taken from the front of bytes: the fault of a length as soon as it is there, a message once it is whole
unfoldable pub taken_in : List ℕ → Taken
taken_in bytes =
    if nat_lt (length bytes) length_size then More
    else if is_missized (size_in bytes) then Fault (Length (size_in bytes))
    else if nat_lt (length bytes) (length_size + size_in bytes) then More
    else message_in (take (size_in bytes) (drop length_size bytes))

-- a request was taken, of which this holds
abbrev pub IfRequest : Taken → (ℕ → Call → Type 0) → Type 0
IfRequest (Request processor call) P = P processor call
IfRequest More P = Unit {0}
IfRequest (Fault fault) P = Unit {0}
IfRequest OutOfMemory P = Unit {0}

-- whether a request was taken
abbrev pub is_request : Taken → Bool
is_request (Request processor call) = true
is_request More = false
is_request (Fault fault) = false
is_request OutOfMemory = false

-- what is taken is what was read; out of memory comes only in place of a request
abbrev pub Takes : Taken → Taken → Type 0
Takes (Request processor call) read = Request processor call ≡ read
Takes More read = More ≡ read
Takes (Fault fault) read = Fault fault ≡ read
Takes OutOfMemory read = is_request read ≡ true

-- how many bytes are gone once this was taken, with this length at the front: a request's; anything else leaves all
abbrev pub used_by : Taken → ℕ → ℕ
used_by (Request processor call) size = length_size + size
used_by More size = 0
used_by (Fault fault) size = 0
used_by OutOfMemory size = 0

-- the bytes that are left once this was taken
abbrev pub left_by : Taken → List ℕ → List ℕ
left_by taken bytes = drop (used_by taken (size_in bytes)) bytes

-- whether the input may end where these bytes are left
abbrev pub ended_in : List ℕ → Result (Unit {0}) MessageFault
ended_in bytes = if length bytes == 0 then Ok tt else Err (Cut (length bytes))
