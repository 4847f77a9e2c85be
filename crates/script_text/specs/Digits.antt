use Rattle.std.specs.Prelude.{ℕ, ◌+◌, ◌*◌, ◌^◌, Bool, List, [], ◌∷◌, nat_lt, if◌then◌else◌, Option, Some, None, option_and_then}
use Rattle.hex.specs.Hex.{hex_digit_value, is_hex_digit}
use Rattle.script_text.specs.declared.numbers.Base.{Base}
use Rattle.script_text.specs.declared.numbers.Base.TheVariants.{Decimal, Hexadecimal}
use Rattle.script_text.specs.Numbers.{is_decimal_digit, decimal_value, hex_value}

-- the number of a base
abbrev pub base_number : Base → ℕ
base_number Decimal = 10
base_number Hexadecimal = 16

-- the value of a digit in a base
abbrev pub digit_in : Base → ℕ → Option ℕ
digit_in Decimal c = if is_decimal_digit c then Some (decimal_value c) else None
digit_in Hexadecimal c = hex_digit_value c

-- whether a character is a digit of a base
abbrev pub is_digit_in : Base → ℕ → Bool
is_digit_in Decimal c = is_decimal_digit c
is_digit_in Hexadecimal c = is_hex_digit c

-- the value of a digit of a base
abbrev pub digit_value_in : Base → ℕ → ℕ
digit_value_in Decimal c = decimal_value c
digit_value_in Hexadecimal c = hex_value c

-- the number below 2^32 that a digit makes of the number before it
abbrev pub appended : Base → ℕ → Option ℕ → Option ℕ
appended base number None = None
appended base number (Some digit) =
    if nat_lt (number * base_number base + digit) (2 ^ 32) then Some (number * base_number base + digit) else None

-- the number below 2^32 that digits make of the number before them
abbrev pub number_from : Base → ℕ → List ℕ → Option ℕ
number_from base number [] = Some number
number_from base number (c ∷ cs) = option_and_then (λ n. number_from base n cs) (appended base number (digit_in base c))
