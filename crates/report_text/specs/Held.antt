use Rattle.std.specs.Prelude.{List}
use Rattle.std.specs.BTreeMap.{insert_entry, is_at}
use Rattle.std.specs.Map.{lookup}
use Rattle.var_region.specs.declared.found.Found.{Found}
use Rattle.var_region.specs.Found.{seen, seen_variable}
use Rattle.var_types.specs.Chosen.{counting}
use Rattle.var_types.specs.declared.key.Key.{Key}
use Rattle.var_types.specs.declared.variable.Variable.{Variable}
use Rattle.var_types.specs.Key.{key_cmp}
use Rattle.var_types.specs.Live.{Live}

-- the records that count for each key so far, after one more live record
abbrev pub held_after : List (Key × Live) → Live → List (Key × Live)
held_after held live = insert_entry key_cmp held live.key (counting (lookup (is_at (key_cmp live.key)) held) live)

-- what is held for a key, as a live record
abbrev pub held_entry : Key × Found → Key × Live
held_entry entry = (entry.0, seen entry.1)

-- the variable of the record that is held for a key
abbrev pub entry_of : Key × Found → Key × Variable
entry_of entry = (entry.0, seen_variable entry.1)
