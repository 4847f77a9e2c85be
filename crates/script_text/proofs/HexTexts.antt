-- The lower-case hexadecimal digits of bytes: which characters they are, and the number that they stand for.
use Rattle.std.proofs.Common.{◌≡◌, ℕ, ◌+◌, ◌*◌, ◌/◌, ◌%◌, ◌<◌, Bool, true, List, [], ◌∷◌, length, get_or, fold, All, Option, Some, refl, ap, ◌∙◌, inl, inr, arith}
use Rattle.std.specs.List.{list_all}
use Rattle.std.specs.Option.{is_some, unwrap_or}
use Rattle.std.proofs.lemmas.Bool.{agree_below_at, and_from, cases_lt}
use Rattle.std.proofs.lemmas.List.{get_or_past}
use Rattle.std.proofs.lemmas.List.Elements.{All-head, All-tail}
use Rattle.hex.specs.Hex.{IsBytes, encode_lower, encode_with, hex_digit_value, is_hex_digit, lower_digits}
use Rattle.hex.proofs.HexLemmas.{IsDigits-lower_digits, length-encode_with}
use Rattle.script_text.specs.Numbers.{hex_value}
use Rattle.script_text.proofs.WordLemmas.{is_word_byte}

-- two digits a byte
pub length-encode_lower : (bytes : List ℕ) → length (encode_lower bytes) ≡ 2 * length bytes
length-encode_lower bytes = length-encode_with lower_digits bytes

-- the digit of a value
abbrev pub digit_of : ℕ → ℕ
digit_of d = get_or lower_digits d 0

-- the value of a digit
pub hex_digit_value-digit_of : (d : ℕ) → d < 16 → hex_digit_value (digit_of d) ≡ Some d
hex_digit_value-digit_of d small = IsDigits-lower_digits d small

-- a digit is one
pub is_hex_digit-digit_of : (d : ℕ) → d < 16 → is_hex_digit (digit_of d) ≡ true
is_hex_digit-digit_of d small = ap is_some (hex_digit_value-digit_of d small)

-- the value of a digit, as a number
pub hex_value-digit_of : (d : ℕ) → d < 16 → hex_value (digit_of d) ≡ d
hex_value-digit_of d small = ap (λ (o : Option ℕ). unwrap_or o 0) (hex_digit_value-digit_of d small)

-- a digit may stand in a word
pub is_word_byte-digit_of : (d : ℕ) → d < 16 → is_word_byte (digit_of d) ≡ true
is_word_byte-digit_of d small = agree_below_at (λ k. is_word_byte (digit_of k)) (λ k. true) 16 d refl small

-- what holds of each digit holds of each character of the digits of bytes
pub list_all-encode_lower : (p : ℕ → Bool) → ((d : ℕ) → d < 16 → p (digit_of d) ≡ true) → (bytes : List ℕ) → All (λ b. b < 256) bytes
    → list_all p (encode_lower bytes) ≡ true
unfolding encode_with
list_all-encode_lower p passes [] small = refl
list_all-encode_lower p passes (b ∷ bytes) small =
    let first : b < 256 = All-head (λ b. b < 256) b bytes small in
    let later = list_all-encode_lower p passes bytes (All-tail (λ b. b < 256) b bytes small) in
    and_from _ _ (passes (b / 16) (omega arith)) (and_from _ _ (passes (b % 16) (omega arith)) later)

-- a digit behind a number
abbrev pub digit_more : ℕ → ℕ → ℕ
digit_more n c = n * 16 + hex_value c

-- a byte behind a number
abbrev pub byte_more : ℕ → ℕ → ℕ
byte_more n b = n * 256 + b

-- the digits of bytes stand for the number that the bytes stand for
pub fold-encode_lower : (n : ℕ) (bytes : List ℕ) → All (λ b. b < 256) bytes → fold digit_more n (encode_lower bytes) ≡ fold byte_more n bytes
unfolding encode_with
fold-encode_lower n [] small = refl
fold-encode_lower n (b ∷ bytes) small =
    let first : b < 256 = All-head (λ b. b < 256) b bytes small in
    let high : hex_value (digit_of (b / 16)) ≡ b / 16 = hex_value-digit_of (b / 16) (omega arith) in
    let low : hex_value (digit_of (b % 16)) ≡ b % 16 = hex_value-digit_of (b % 16) (omega arith) in
    let one : digit_more (digit_more n (digit_of (b / 16))) (digit_of (b % 16)) ≡ byte_more n b = rw (high, low) (omega arith) in
    ap (λ (m : ℕ). fold digit_more m (encode_lower bytes)) one
    ∙ fold-encode_lower (byte_more n b) bytes (All-tail (λ b. b < 256) b bytes small)

-- bytes in the words of `hex`
pub IsBytes-from_All : (bytes : List ℕ) → All (λ b. b < 256) bytes → IsBytes bytes
IsBytes-from_All bytes small i =
    elim (cases_lt i (length bytes)) [
      | inl within ↦ small i 0 within
      | inr past ↦ rw (get_or_past bytes i 0 past) (omega arith)
    ]
