use Rattle.std.specs.Prelude.{ℕ, List, length, nat_lt, if◌then◌else◌, Option, Some, None, Result, Ok, Err}
use Rattle.var_types.specs.declared.call.GetCall.{GetCall}
use Rattle.var_types.specs.declared.guid.Guid.{Guid}
use Rattle.var_types.specs.declared.name.NameFault.{NameFault}
use Rattle.var_types.specs.declared.reply.GetReply.{GetReply}
use Rattle.var_types.specs.declared.reply.GetReply.TheVariants.{NotFound, TooSmall, Ok as Got}
use Rattle.var_types.specs.declared.variable.Variable.{Variable}
use Rattle.var_types.specs.Key.{key_of}
use Rattle.var_types.specs.Name.{name_check}
use Rattle.var_types.specs.State.{State, visible_at}

-- what callers see at a GUID and a name: nothing at an ill-formed name (UEFI 2.10, 8.2.1)
abbrev pub visible_named : State → Guid → List ℕ → Result (Unit {0}) NameFault → Option Variable
visible_named state guid name (Err fault) = None
visible_named state guid name (Ok u) = visible_at state (key_of guid name)

-- the answer from what is visible: it doesn't fit, or here it is
abbrev pub get_found : Option Variable → ℕ → GetReply
get_found None room = NotFound
get_found (Some variable) room =
    if nat_lt room (length variable.bytes) then TooSmall variable.attributes (length variable.bytes)
    else Got variable.attributes variable.bytes

-- the get rule: what GetVariable answers (UEFI 2.10, 8.2.1)
unfoldable pub get_reply : State → GetCall → GetReply
get_reply state call = get_found (visible_named state call.guid call.name (name_check call.name)) call.room
