use Rattle.std.specs.Prelude.{ℕ, ◌+◌, ◌-◌, ◌*◌, ◌^◌, ◌==◌, ◌&&◌, not, Bool, List, [], ◌∷◌, length, take, drop, fold, codes, nat_lt, nat_le, if◌then◌else◌, Result, Ok, Err, unwrap_or}
use Rattle.std.specs.List.{list_all}
use Rattle.hex.specs.Hex.{is_hex_digit, hex_digit_value, decode_of}
use Rattle.script_text.specs.declared.line_reason.LineReason.{LineReason}
use Rattle.script_text.specs.declared.line_reason.LineReason.TheVariants as reason
use Rattle.var_types.specs.Texts.{is_dash}
use lib.Pointwise.{pointwise}

-- whether a character is a decimal digit, and the value of one
abbrev pub is_decimal_digit : ℕ → Bool
is_decimal_digit c = nat_le 48 c && nat_le c 57

abbrev pub decimal_value : ℕ → ℕ
decimal_value c = c - 48

-- the value of a hexadecimal digit, in either case
abbrev pub hex_value : ℕ → ℕ
hex_value c = unwrap_or (hex_digit_value c) 0

-- what a list of digits stands for in a base, the first digit being the highest
abbrev pub value_in : ℕ → (ℕ → ℕ) → List ℕ → ℕ
value_in base value digits = fold (λ n c. n * base + value c) 0 digits

-- the number of some digits in a base: at least one digit, and below 2^32
unfoldable pub number_in : ℕ → (ℕ → Bool) → (ℕ → ℕ) → List ℕ → Result ℕ LineReason
number_in base is_digit value digits =
    if not (length digits == 0) && list_all is_digit digits && nat_lt (value_in base value digits) (2 ^ 32)
    then Ok (value_in base value digits)
    else Err reason.Number

-- whether a word begins with `0x`
abbrev pub has_hex_prefix : List ℕ → Bool
has_hex_prefix word = pointwise ◌==◌ (take 2 word) (codes "0x")

-- the number of a word: decimal digits, or `0x` and hexadecimal digits (this project's own)
unfoldable pub number_of : List ℕ → Result ℕ LineReason
number_of word =
    if has_hex_prefix word then number_in 16 is_hex_digit hex_value (drop 2 word)
    else number_in 10 is_decimal_digit decimal_value word

-- the bytes of hexadecimal digits, where they are
abbrev pub hex_read : {E : Type 0} → Result (List ℕ) E → Result (List ℕ) LineReason
hex_read (Ok bytes) = Ok bytes
hex_read (Err e) = Err reason.Hex

-- the bytes of a word: none for `-`, else an even number of hexadecimal digits (this project's own)
unfoldable pub bytes_of : List ℕ → Result (List ℕ) LineReason
bytes_of word = if is_dash word then Ok [] else hex_read (decode_of word)

-- the processor of a word: one digit from 0 to 7 (this project's own)
unfoldable pub processor_of : List ℕ → Result ℕ LineReason
processor_of [] = Err reason.Processor
processor_of (c ∷ []) = if nat_le 48 c && nat_le c 55 then Ok (c - 48) else Err reason.Processor
processor_of (c ∷ d ∷ cs) = Err reason.Processor
