-- The set rule: the cases in their order, what a set comes to by the first that holds, and the reply and state that follow.
use Rattle.std.specs.Prelude.{ℕ, ◌+◌, Bool, false, List, [], ◌∷◌, ◌++◌, length, drop, if◌then◌else◌, Option, Some, None, is_some}
use Rattle.std.specs.BTreeMap.{is_at, insert_entry}
use Rattle.std.specs.Map.{remove_entry}
use Rattle.var_types.specs.declared.call.SetCall.{SetCall}
use Rattle.var_types.specs.declared.decision.Decision.{Decision}
use Rattle.var_types.specs.declared.decision.Decision.TheVariants.{Refuse, Same, Remove, Write}
use Rattle.var_types.specs.declared.key.Key.{Key}
use Rattle.var_types.specs.declared.reply.SetReply.{SetReply}
use Rattle.var_types.specs.declared.reply.SetReply.TheVariants.{Ok as Changed, Same as Unchanged, Refused}
use Rattle.var_types.specs.declared.stamp.Stamp.{Stamp}
use Rattle.var_types.specs.declared.variable.Variable.{Variable}
use Rattle.var_types.specs.Attributes.{is_append, store_of, without_append}
use Rattle.var_types.specs.Key.{key_cmp}
use Rattle.var_types.specs.Name.{name_check}
use Rattle.var_types.specs.Policies.{Question, denied}
use Rattle.var_types.specs.Reading.{Reading, deletes, kept_bytes, made_of, reading_of, set_key, skip_of, stamp_of}
use Rattle.var_types.specs.Room.{room_limit, room_needed}
use Rattle.var_types.specs.SetCases.{append_size_case, authentication_case, denied_case, descriptor_case, differ_case, hidden_case, history_case, missing_case, name_case, room_case, runtime_new_case, runtime_without_boot_case, same_case, size_case, stamp_case, unknown_case, unsupported_case, verdict_case, volatile_case}
use Rattle.var_types.specs.State.{State, stored_at}

-- what policies are asked about a set: they see the length of its payload alone (EDK II, VariablePolicyLib)
abbrev pub question : Reading → Question
question set = record {
  key = set_key set.call;
  attributes = set.call.attributes;
  payload = length set.payload;
  deletes = deletes set;
  stored = is_some set.stored;
}

-- the cases of the set rule in the order in which they are tried (UEFI 2.10, 8.2.3; EDK II, VariableServiceSetVariable; the order is this
-- project's own)
abbrev pub cases : State → Reading → List (Option Decision)
cases state set =
    name_case (name_check set.call.name)
    ∷ unsupported_case set.call.attributes
    ∷ unknown_case set.call.attributes
    ∷ runtime_without_boot_case set.call.attributes
    ∷ hidden_case state.runtime set.stored
    ∷ volatile_case state.runtime set.stored
    ∷ runtime_new_case state.runtime set.stored set.call.attributes (deletes set)
    ∷ descriptor_case set.front
    ∷ size_case set.call.name set.payload
    ∷ denied_case (denied state (question set))
    ∷ missing_case set.stored (deletes set) set.payload
    ∷ authentication_case set.stored set.call.attributes
    ∷ differ_case set.stored set.call.attributes
    ∷ verdict_case set.call.attributes set.call.verdict
    ∷ stamp_case set.call.attributes set.stored (stamp_of set.front)
    ∷ append_size_case set.call.name set.call.attributes (deletes set) set.stored set.payload
    ∷ same_case (deletes set) set.stored (made_of set)
    ∷ room_case (deletes set) (room_needed state (set_key set.call) (made_of set)) (room_limit (store_of (made_of set).attributes))
    ∷ history_case state.made state.limit
    ∷ []

-- the first case that holds, or the last word where none does
abbrev pub first_of : Decision → List (Option Decision) → Decision
first_of last [] = last
first_of last (None ∷ cases) = first_of last cases
first_of last (Some decision ∷ cases) = decision

-- the change that a set makes, by what is stored
abbrev pub change_over : Reading → Option Variable → Decision
change_over set None =
    Write (without_append set.call.attributes) (made_of set).stamp (skip_of set.call.bytes set.front) false
change_over set (Some variable) =
    if deletes set then Remove (store_of variable.attributes)
    else Write (without_append set.call.attributes) (made_of set).stamp (skip_of set.call.bytes set.front) (is_append set.call.attributes)

-- the change that a set makes, where no case holds: a deletion or a write (UEFI 2.10, 8.2.3)
unfoldable pub change_of : Reading → Decision
change_of set = change_over set set.stored

-- what a set comes to: the first case that holds, else its change (UEFI 2.10, 8.2.3)
unfoldable pub decision : State → SetCall → Decision
decision state call = first_of (change_of (reading_of state call)) (cases state (reading_of state call))

-- the variable of a write, from the numbers of its decision
abbrev pub variable_by : SetCall → Option Variable → ℕ → Stamp → ℕ → Bool → Variable
variable_by call stored attributes stamp skip append = record {
  attributes = attributes;
  bytes = kept_bytes append stored ++ drop skip call.bytes;
  stamp = stamp;
}

-- the state after a change to these variables, which is counted (this project's own)
abbrev pub changed : State → List (Key × Variable) → State
changed state variables = record state { variables = variables; made = state.made + 1 }

-- the reply and the state of a set that comes to this
abbrev pub decided : State → SetCall → Decision → SetReply × State
decided state call (Refuse reason) = (Refused reason, state)
decided state call Same = (Unchanged, state)
decided state call (Remove store) = (Changed, changed state (remove_entry (is_at (key_cmp (set_key call))) state.variables))
decided state call (Write attributes stamp skip append) = (
  Changed,
  changed state
      (insert_entry key_cmp state.variables (set_key call)
      (variable_by call (stored_at state (set_key call)) attributes stamp skip append)),
)

-- the set rule: the reply of SetVariable and the state that it leaves (UEFI 2.10, 8.2.3)
unfoldable pub set_step : State → SetCall → SetReply × State
set_step state call = decided state call (decision state call)
