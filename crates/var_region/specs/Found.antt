use Rattle.std.specs.Prelude.{ℕ, ◌==◌, Bool, false, Option, Some, None}
use Rattle.var_types.specs.declared.key.Key.{Key}
use Rattle.var_types.specs.declared.variable.Variable.{Variable}
use Rattle.var_types.specs.Live.{Live, live_entry, units_in}
use Rattle.var_region.specs.declared.found.Found.{Found}

-- the live record that was found
abbrev pub seen : Found → Live
seen f = record {
  at = f.at;
  state = f.state;
  key = record { guid = f.guid; name = units_in f.name.now };
  variable = record { attributes = f.attributes; bytes = f.payload.now; stamp = f.stamp };
}

-- the key of a live record that was found
abbrev pub seen_key : Found → Key
seen_key f = (seen f).key

-- the variable of a live record that was found
abbrev pub seen_variable : Found → Variable
seen_variable f = (seen f).variable

-- the entry of the map that a live record that was found is
abbrev pub seen_entry : Found → Key × Variable
seen_entry f = live_entry (seen f)

-- whether a live record, where there is one, stands at an offset
abbrev pub is_here : ℕ → Option Live → Bool
is_here at None = false
is_here at (Some live) = live.at == at
