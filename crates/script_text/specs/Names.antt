use Rattle.std.specs.Prelude.{ℕ, ◌+◌, ◌*◌, ◌==◌, ◌&&◌, List, [], ◌∷◌, length, nat_le, if◌then◌else◌, Option, Some, None, Result, Ok, Err}
use Rattle.hex.specs.Hex.{is_hex_digit}
use Rattle.var_types.specs.Layout.{most_units}
use Rattle.var_types.specs.Texts.{is_dash, is_plain, percent}
use Rattle.script_text.specs.declared.line_reason.LineReason.{LineReason}
use Rattle.script_text.specs.declared.line_reason.LineReason.TheVariants as reason
use Rattle.script_text.specs.Numbers.{hex_value}

-- the unit of a character that stands for itself
abbrev pub plain_unit : ℕ → Option ℕ
plain_unit c = if is_plain c then Some c else None

-- the unit of the four hexadecimal digits behind a `%`
abbrev pub escaped_unit : ℕ → ℕ → ℕ → ℕ → Option ℕ
escaped_unit a b c d =
    if is_hex_digit a && is_hex_digit b && is_hex_digit c && is_hex_digit d
    then Some (hex_value a * 4096 + hex_value b * 256 + hex_value c * 16 + hex_value d)
    else None

-- a unit before others, where both are there
abbrev pub before_units : Option ℕ → Option (List ℕ) → Option (List ℕ)
before_units None units = None
before_units (Some unit) None = None
before_units (Some unit) (Some units) = Some (unit ∷ units)

-- the units that characters spell: `%` with four hexadecimal digits is one, any other character from `!` to `~` is one (this project's
-- own)
unfoldable pub units_of : List ℕ → Option (List ℕ)
units_of [] = Some []
units_of (x ∷ []) = before_units (plain_unit x) (Some [])
units_of (x ∷ a ∷ []) = before_units (plain_unit x) (units_of (a ∷ []))
units_of (x ∷ a ∷ b ∷ []) = before_units (plain_unit x) (units_of (a ∷ b ∷ []))
units_of (x ∷ a ∷ b ∷ c ∷ []) = before_units (plain_unit x) (units_of (a ∷ b ∷ c ∷ []))
units_of (x ∷ a ∷ b ∷ c ∷ d ∷ rest) =
    if x == percent then before_units (escaped_unit a b c d) (units_of rest)
    else before_units (plain_unit x) (units_of (a ∷ b ∷ c ∷ d ∷ rest))

-- at most 1,024 units make a name
abbrev pub name_within : Option (List ℕ) → Result (List ℕ) LineReason
name_within None = Err reason.Name
name_within (Some units) = if nat_le (length units) most_units then Ok units else Err reason.Name

-- the name of a word: none for `-` (this project's own)
unfoldable pub name_of : List ℕ → Result (List ℕ) LineReason
name_of word = if is_dash word then Ok [] else name_within (units_of word)
