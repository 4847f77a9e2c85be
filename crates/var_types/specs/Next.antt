use Rattle.std.specs.Prelude.{ℕ, ◌+◌, ◌*◌, Bool, true, ◌&&◌, List, length, nat_lt, if◌then◌else◌, find, Option, Some, None, is_some, Result, Ok, Err}
use Rattle.std.specs.Option.{option_map}
use Rattle.std.specs.Ordering.{is_lt}
use Rattle.var_types.specs.declared.call.NextCall.{NextCall}
use Rattle.var_types.specs.declared.key.Key.{Key}
use Rattle.var_types.specs.declared.name.NameFault.{NameFault}
use Rattle.var_types.specs.declared.name.NameFault.TheVariants.{Empty, TooLong, InnerNul}
use Rattle.var_types.specs.declared.reply.NextReply.{NextReply}
use Rattle.var_types.specs.declared.reply.NextReply.TheVariants.{NoSuch, End, TooSmall, Ok as Found}
use Rattle.var_types.specs.declared.variable.Variable.{Variable}
use Rattle.var_types.specs.Key.{key_cmp, key_of}
use Rattle.var_types.specs.Name.{name_check}
use Rattle.var_types.specs.State.{State, seen_at, visible_at}

-- whether callers see an entry of a state (UEFI 2.10, 8.2.2)
abbrev pub is_seen : State → Key × Variable → Bool
is_seen state entry = is_some (seen_at state.runtime (Some entry.1))

-- whether a key is above a bound, where there is one
abbrev pub is_above : Option Key → Key → Bool
is_above None key = true
is_above (Some bound) key = is_lt (key_cmp bound key)

-- the least visible key above a bound: the first, since the variables stand in key order (UEFI 2.10, 8.2.2; the order is this project's own)
unfoldable pub next_above : State → Option Key → Option Key
next_above state bound = option_map (λ e. e.0) (find (λ e. is_seen state e && is_above bound e.0) state.variables)

-- the bytes of a name with its NUL
abbrev pub name_size : List ℕ → ℕ
name_size name = 2 * length name + 2

-- the answer from the next key: there is none, its name doesn't fit, or here it is
abbrev pub next_found : Option Key → ℕ → NextReply
next_found None room = End
next_found (Some key) room = if nat_lt room (name_size key.name) then TooSmall (name_size key.name) else Found key

-- the answer behind a key that callers must see
abbrev pub next_behind : State → NextCall → Option Variable → NextReply
next_behind state call None = NoSuch
next_behind state call (Some variable) = next_found (next_above state (Some (key_of call.guid call.name))) call.room

-- the answer by the name: an empty one asks for the least key, whatever the GUID; an ill-formed one is no variable's
unfoldable pub next_named : State → NextCall → Result (Unit {0}) NameFault → NextReply
next_named state call (Err Empty) = next_found (next_above state None) call.room
next_named state call (Err (TooLong units)) = NoSuch
next_named state call (Err (InnerNul at)) = NoSuch
next_named state call (Ok u) = next_behind state call (visible_at state (key_of call.guid call.name))

-- the next rule: what GetNextVariableName answers (UEFI 2.10, 8.2.2)
unfoldable pub next_reply : State → NextCall → NextReply
next_reply state call = next_named state call (name_check call.name)
