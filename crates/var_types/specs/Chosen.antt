-- Which of the records of a key counts.
use Rattle.std.specs.Prelude.{Bool, false, not, ◌&&◌, List, if◌then◌else◌, Option, Some, None, find, reverse}
use Rattle.std.specs.BTreeMap.{is_at}
use Rattle.std.specs.List.{fold}
use Rattle.std.specs.Option.{option_map, option_or}
use Rattle.var_types.specs.declared.key.Key.{Key}
use Rattle.var_types.specs.declared.variable.Variable.{Variable}
use Rattle.var_types.specs.Key.{key_cmp}
use Rattle.var_types.specs.Live.{Live}
use Rattle.var_types.specs.RecordState.{is_added_state}

-- whether a live record is a key's
abbrev pub is_of : Key → Live → Bool
is_of key live = is_at (key_cmp key) live.key

-- whether a live record is a key's, and ADDED
abbrev pub is_added : Key → Live → Bool
is_added key live = is_added_state live.state && is_of key live

-- whether a live record is a key's, and in transition to deleted
abbrev pub is_in_transition : Key → Live → Bool
is_in_transition key live = not (is_added_state live.state) && is_of key live

-- the record that counts for a key: its first ADDED one, else its last in transition (EDK II, FindVariableEx; the choice among several is this
-- project's own)
unfoldable pub chosen : Key → List Live → Option Live
chosen key ls = option_or (find (is_added key) ls) (find (is_in_transition key) (reverse ls))

-- the variable of a record that counts, where one does
abbrev pub variable_of : Option Live → Option Variable
variable_of found = option_map (λ (live : Live). live.variable) found

-- of a record held for a key and a later one of that key the one that counts so far: an ADDED one that is held, else the later one (this
-- project's own)
abbrev pub counting : Option Live → Live → Live
counting None later = later
counting (Some held) later = if is_added_state held.state then held else later

-- whether a record that is held for a key counts, whatever follows: it is ADDED
abbrev pub is_settled : Option Live → Bool
is_settled None = false
is_settled (Some held) = is_added_state held.state

-- the record that counts for a key so far, after one more live record of whichever key
abbrev pub chosen_after : Key → Option Live → Live → Option Live
chosen_after key held later = if is_of key later then Some (counting held later) else held

-- the record that counts for a key after some more live records, one after the other
abbrev pub chosen_from : Key → Option Live → List Live → Option Live
chosen_from key held ls = fold (chosen_after key) held ls
