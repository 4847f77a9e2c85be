use Rattle.std.specs.Prelude.{◌≡◌, ℕ, ◌<◌, ◌≤◌, List, length}
use Rattle.var_types.specs.declared.units.UnitsFault.{UnitsFault}
use Rattle.var_types.specs.declared.units.UnitsFault.TheVariants.{TooMany, OutOfMemory}
use Rattle.var_types.specs.Layout.{most_units}

-- why these units are refused: there are more than 1,024, or the call is out of memory
abbrev pub RefusesUnits : List ℕ → UnitsFault → Type 0
RefusesUnits units (TooMany n) = (most_units < length units) × (n ≡ length units)
RefusesUnits units OutOfMemory = length units ≤ most_units
