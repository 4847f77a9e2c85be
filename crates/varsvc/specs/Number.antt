-- The numbers of the command line.
use Rattle.std.specs.Prelude.{ℕ, ◌+◌, ◌*◌, ◌-◌, ◌==◌, ◌||◌, List, [], ◌∷◌, length, nat_lt, if◌then◌else◌, Option, Some, None, option_and_then}
use Rattle.script_text.specs.Numbers.{is_decimal_digit}

-- the number below a million that a decimal digit makes of the number before it
abbrev pub with_digit : ℕ → ℕ → Option ℕ
with_digit number c =
    if is_decimal_digit c then (if nat_lt (number * 10 + (c - 48)) 1000000 then Some (number * 10 + (c - 48)) else None)
    else None

-- the number below a million that decimal digits make of the number before them
abbrev pub number_from : ℕ → List ℕ → Option ℕ
number_from number [] = Some number
number_from number (c ∷ cs) = option_and_then (λ n. number_from n cs) (with_digit number c)

-- the number of a word: 1 to 6 decimal digits, which always are below a million (this project's own)
abbrev pub number_of : List ℕ → Option ℕ
number_of word = if (length word == 0) || nat_lt 6 (length word) then None else number_from 0 word
