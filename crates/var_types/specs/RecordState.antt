use Rattle.std.specs.Prelude.{ℕ, ◌==◌, Bool, true, false, if◌then◌else◌, Option, Some, None}
use Rattle.var_types.specs.declared.record_state.RecordState.{RecordState}
use Rattle.var_types.specs.declared.record_state.RecordState.TheVariants.{Added, InDeletedTransition}

-- the state that a state byte says, of a record that can hold a variable: 0x3F is VAR_ADDED, and 0x3E is VAR_ADDED & VAR_IN_DELETED_TRANSITION
-- (EDK II, VariableFormat.h)
abbrev pub record_state : ℕ → Option RecordState
record_state state = if state == 0x3F then Some Added else if state == 0x3E then Some InDeletedTransition else None

-- whether a state is ADDED, and not in transition to deleted
abbrev pub is_added_state : RecordState → Bool
is_added_state Added = true
is_added_state InDeletedTransition = false
