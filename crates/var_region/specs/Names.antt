use Rattle.std.specs.Prelude.{ℕ, ◌==◌, Bool, List, [], ◌∷◌, Option, Some, None}
use denote.Ref.{Bor}
use Rattle.var_types.specs.Live.{units_in}
use Rattle.var_region.specs.declared.name.Name.{Name}
use Rattle.var_region.specs.declared.name.Name.TheVariants.{Units, Bytes}

-- the units of a first one and the bytes behind it
abbrev pub first_units : Option (ℕ × Bor (List ℕ)) → List ℕ
first_units None = []
first_units (Some first) = first.0 ∷ units_in first.1.now

-- the units of bytes that were lent
abbrev pub lent_units : Bor (List ℕ) → List ℕ
lent_units bytes = units_in bytes.now

-- whether a unit is a NUL
abbrev pub is_nul : ℕ → Bool
is_nul unit = unit == 0

-- the units of a name that is lent
abbrev pub name_units : Name → List ℕ
name_units (Units units) = units.now
name_units (Bytes bytes) = units_in bytes.now

-- the units of a first one and the name behind it
abbrev pub first_and_rest : Option (ℕ × Name) → List ℕ
first_and_rest None = []
first_and_rest (Some first) = first.0 ∷ name_units first.1
