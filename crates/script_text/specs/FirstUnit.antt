use Rattle.std.specs.Prelude.{ℕ, ◌==◌, List, [], ◌∷◌, ◌++◌, if◌then◌else◌, Option, Some, None, option_map}
use Rattle.var_types.specs.Texts.{percent}
use Rattle.script_text.specs.Names.{plain_unit, escaped_unit, before_units, units_of}

-- the unit of the four hexadecimal digits behind a `%`, and the characters behind them
abbrev pub escaped_front : List ℕ → Option (ℕ × List ℕ)
escaped_front [] = None
escaped_front (a ∷ []) = None
escaped_front (a ∷ b ∷ []) = None
escaped_front (a ∷ b ∷ c ∷ []) = None
escaped_front (a ∷ b ∷ c ∷ d ∷ rest) = option_map (λ unit. (unit, rest)) (escaped_unit a b c d)

-- the first unit that characters spell, and the characters behind it
abbrev pub first_unit : List ℕ → Option (ℕ × List ℕ)
first_unit [] = None
first_unit (c ∷ cs) = if c == percent then escaped_front cs else option_map (λ unit. (unit, cs)) (plain_unit c)

-- the units of characters by their first unit
abbrev pub units_by : Option (ℕ × List ℕ) → Option (List ℕ)
units_by None = None
units_by (Some front) = before_units (Some front.0) (units_of front.1)

-- units behind those before them, where they are there
abbrev pub units_after : List ℕ → Option (List ℕ) → Option (List ℕ)
units_after front None = None
units_after front (Some units) = Some (front ++ units)
