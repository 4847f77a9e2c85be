use Rattle.std.specs.Prelude.{ℕ, List, [], ◌∷◌, Option, Some, None}
use Rattle.var_types.specs.declared.guid.Guid.{Guid}
use Rattle.var_types.specs.declared.key.Key.{Key}
use Rattle.var_types.specs.Key.{key_of}
use Rattle.var_region.specs.declared.wanted.Wanted.{Wanted}
use Rattle.var_region.specs.Names.{name_units}

-- the key that is wanted
abbrev pub wanted_key : Wanted → Key
wanted_key wanted = record { guid = wanted.guid; name = name_units wanted.name }

-- the bound that a GUID and a name are: none by an empty name, whatever the GUID (UEFI 2.10, 8.2.2)
abbrev pub bound_of : Guid → List ℕ → Option Key
bound_of guid [] = None
bound_of guid (unit ∷ units) = Some (key_of guid (unit ∷ units))
