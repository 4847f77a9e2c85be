-- The texts of numbers and bytes read back.
use Rattle.std.proofs.Common.{◌≡◌, ℕ, ◌+◌, ◌*◌, ◌%◌, ◌^◌, ◌<◌, ◌≤◌, Bool, true, false, ltb, eqb, List, [], ◌∷◌, length, fold, All, Ok, refl, ap, ◌∙◌, arith, rules}
use Rattle.std.specs.Prelude.{nat_le}
use Rattle.std.specs.Fmt.{decimal}
use Rattle.std.specs.Int.{to_be_bytes, w32}
use Rattle.std.specs.List.{list_all}
use Rattle.std.proofs.lemmas.Bool.{and_parts, and_right, leb-true, lt-ltb, ne_eqb}
use Rattle.std.proofs.lemmas.Fmt.{decimal_nonempty, digits_decimal, digits_value-decimal}
use Rattle.std.proofs.lemmas.List.Elements.{All-from_recursion}
use Rattle.std.proofs.lemmas.Nat.{from_be_bytes-to_be_bytes_4}
use Rattle.std.proofs.lemmas.Str.Parse.{IsNumeralModel, numerals_by_fold}
use Rattle.hex.specs.Hex.{encode_lower, encode_with, is_hex_digit}
use Rattle.hex.proofs.HexLemmas.{decode_of-encode_lower}
use Rattle.var_types.specs.Texts.{attributes_text, bytes_text, is_dash}
use Rattle.script_text.specs.Numbers.{bytes_of, decimal_value, has_hex_prefix, hex_read, hex_value, is_decimal_digit, number_in, number_of, value_in}
use Rattle.script_text.proofs.HexTexts.{IsBytes-from_All, byte_more, fold-encode_lower, is_hex_digit-digit_of, is_word_byte-digit_of, length-encode_lower, list_all-encode_lower}
use Rattle.script_text.proofs.WordLemmas.{IsWord, is_word_byte, list_all-weaker}

-- digits that stand for a number below 2^32 are read as it
number_in-is : (base : ℕ) (is_digit : ℕ → Bool) (value : ℕ → ℕ) (digits : List ℕ) (n : ℕ) → 0 < length digits
    → list_all is_digit digits ≡ true → value_in base value digits ≡ n → n < 2 ^ 32 → number_in base is_digit value digits ≡ Ok n
unfolding number_in
number_in-is base is_digit value digits n some are_digits is_n small =
    let longer : eqb (length digits) 0 ≡ false = ne_eqb _ _ (λ e. omega arith) in
    let below : ltb n (2 ^ 32) ≡ true = lt-ltb n (2 ^ 32) small in
    rw (longer, are_digits, is_n, below) refl

-- ---- decimal digits

-- decimal digits behind a number
abbrev digits_after : ℕ → List ℕ → ℕ
digits_after n digits = fold (λ n c. n * 10 + decimal_value c) n digits

-- this project's decimal digits are the library's
own : IsNumeralModel (λ ds. list_all is_decimal_digit ds ≡ true) (digits_after 0)
own = numerals_by_fold _ (search rules) digits_after (search rules)

-- a decimal digit is no `x`
no_x : (c : ℕ) → is_decimal_digit c ≡ true → eqb c 120 ≡ false
no_x c h =
    let within = and_parts (nat_le 48 c) (nat_le c 57) h in
    let low : c ≤ 57 = leb-true c 57 within.1 in
    ne_eqb c 120 (λ e. omega arith)

-- decimal digits don't begin with `0x`
no_hex_prefix : (digits : List ℕ) → list_all is_decimal_digit digits ≡ true → has_hex_prefix digits ≡ false
no_hex_prefix [] h = refl
no_hex_prefix (a ∷ []) h = and_right (eqb a 48) false refl
no_hex_prefix (a ∷ b ∷ digits) h =
    let rest = and_parts (is_decimal_digit a) (list_all is_decimal_digit (b ∷ digits)) h in
    let second = and_parts (is_decimal_digit b) (list_all is_decimal_digit digits) rest.1 in
    rw (no_x b second.0) (and_right (eqb a 48) false refl)

-- the decimal digits of a number are read as the number
pub number_of-decimal : (n : ℕ) → n < 2 ^ 32 → number_of (decimal n) ≡ Ok n
unfolding number_of
number_of-decimal n small =
    let wide : n < 2 ^ 64 = omega arith in
    let are_digits = digits_decimal own n wide in
    let is_n = digits_value-decimal own n wide in
    rw (no_hex_prefix (decimal n) are_digits)
    (number_in-is 10 is_decimal_digit decimal_value (decimal n) n (decimal_nonempty n wide) are_digits is_n small)

-- the decimal digits of a number are a word
pub IsWord-decimal : (n : ℕ) → n < 2 ^ 32 → IsWord (decimal n)
IsWord-decimal n small =
    let wide : n < 2 ^ 64 = omega arith in
    let printed : (c : ℕ) → is_decimal_digit c ≡ true → is_word_byte c ≡ true = λ c h. grind arith in
    record {
      some = decimal_nonempty n wide;
      printed = list_all-weaker is_decimal_digit is_word_byte printed (decimal n) (digits_decimal own n wide);
    }

-- ---- attributes

-- the bytes of a number are bytes
AreBytes-to_be_bytes : (n : ℕ) → All (λ b. b < 256) (to_be_bytes w32 n)
AreBytes-to_be_bytes n = All-from_recursion (λ b. b < 256) (to_be_bytes w32 n) (omega arith, (omega arith, (omega arith, (omega arith, tt))))

-- the bytes of a number stand for it
fold-to_be_bytes : (n : ℕ) → n < 2 ^ 32 → fold byte_more 0 (to_be_bytes w32 n) ≡ n
fold-to_be_bytes n small = omega (arith, from_be_bytes-to_be_bytes_4 n small)

-- the text of attributes is read as them
pub number_of-attributes_text : (n : ℕ) → n < 2 ^ 32 → number_of (attributes_text n) ≡ Ok n
unfolding number_of attributes_text encode_with
number_of-attributes_text n small =
    let bytes : List ℕ = to_be_bytes w32 n in
    let is_n : value_in 16 hex_value (encode_lower bytes) ≡ n = fold-encode_lower 0 bytes (AreBytes-to_be_bytes n) ∙ fold-to_be_bytes n small in
    number_in-is 16 is_hex_digit hex_value (encode_lower bytes) n (omega (arith, length-encode_lower bytes))
    (list_all-encode_lower is_hex_digit is_hex_digit-digit_of bytes (AreBytes-to_be_bytes n)) is_n small

-- the text of attributes is a word
pub IsWord-attributes_text : (n : ℕ) → IsWord (attributes_text n)
unfolding attributes_text
IsWord-attributes_text n = record {
  some = omega arith;
  printed = list_all-encode_lower is_word_byte is_word_byte-digit_of (to_be_bytes w32 n) (AreBytes-to_be_bytes n);
}

-- ---- bytes

-- pairs of digits are no dash
no_dash : (digits : List ℕ) → length digits % 2 ≡ 0 → is_dash digits ≡ false
no_dash [] even = refl
no_dash (a ∷ []) even = absurd (omega arith)
no_dash (a ∷ b ∷ digits) even = and_right (eqb a 45) false refl

-- the text of bytes is read as them
pub bytes_of-bytes_text : (bytes : List ℕ) → All (λ b. b < 256) bytes → bytes_of (bytes_text bytes) ≡ Ok bytes
unfolding bytes_of bytes_text
bytes_of-bytes_text [] small = refl
bytes_of-bytes_text (b ∷ bytes) small =
    let digits : List ℕ = encode_lower (b ∷ bytes) in
    let longer : eqb (length (b ∷ bytes)) 0 ≡ false = ne_eqb _ _ (λ e. omega arith) in
    let dashed : is_dash digits ≡ false = no_dash digits (omega (arith, length-encode_lower (b ∷ bytes))) in
    rw (longer, dashed) (ap hex_read (decode_of-encode_lower (b ∷ bytes) (IsBytes-from_All (b ∷ bytes) small)))

-- the text of bytes is a word
pub IsWord-bytes_text : (bytes : List ℕ) → All (λ b. b < 256) bytes → IsWord (bytes_text bytes)
unfolding bytes_text
IsWord-bytes_text [] small = record { some = omega arith; printed = refl }
IsWord-bytes_text (b ∷ bytes) small =
    let longer : eqb (length (b ∷ bytes)) 0 ≡ false = ne_eqb _ _ (λ e. omega arith) in
    rw longer (record {
      some = omega (arith, length-encode_lower (b ∷ bytes));
      printed = list_all-encode_lower is_word_byte is_word_byte-digit_of (b ∷ bytes) small;
    })
