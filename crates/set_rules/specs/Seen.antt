-- What a view lends, as the set rule reads it.
use Rattle.std.specs.Prelude.{Bool, Option, Some, None, if◌then◌else◌}
use Rattle.set_rules.specs.declared.reading.Reading.{Reading as LentReading}
use Rattle.set_rules.specs.declared.view.Stored.{Stored}
use Rattle.var_types.specs.declared.store.Store.{Store}
use Rattle.var_types.specs.declared.store.Store.TheVariants.{NonVolatile, Volatile}
use Rattle.var_types.specs.declared.variable.Variable.{Variable}
use Rattle.var_types.specs.Reading.{Reading}

-- the variable that is lent, where something is stored
abbrev pub seen : Option Stored → Option Variable
seen None = None
seen (Some stored) = Some (record { attributes = stored.attributes; bytes = stored.payload.now; stamp = stored.stamp })

-- the set that is lent, as the rule reads it
abbrev pub reading : LentReading → Reading
reading set = record { call = set.call.now; stored = seen set.stored; front = set.front; payload = set.payload.now }

-- the store that is the non-volatile one, or the other
abbrev pub store_if : Bool → Store
store_if non_volatile = if non_volatile then NonVolatile else Volatile
