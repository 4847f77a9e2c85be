use Rattle.std.proofs.Common.{◌≡◌, ℕ, zero, suc, ◌/◌, ◌%◌, ◌<◌, Bool, true, false, not, ◌&&◌, eqb, if◌then◌else◌, List, [], ◌∷◌, ◌++◌, length, get_or, flat_map, codes, decimal, refl, ◌∙◌, arith}
use Rattle.std.proofs.lemmas.Bool.{and_parts, and_from}
use Rattle.std.proofs.lemmas.Bool.Decides.{nat_tests}
use Rattle.std.proofs.lemmas.List.Folds.{list_all-append}
use Rattle.std.specs.Fmt.{digits, digits_onto, digit_glyph}
use Rattle.std.specs.Int.{to_be_bytes, w16, w32}
use Rattle.std.specs.List.{list_all}
use Rattle.hex.specs.Hex.{encode_lower, encode_with, lower_digits}
use Rattle.uuid.specs.Parts.{swap_fields}
use Rattle.uuid.specs.Text.{by_index, hex_digit, hyphen, is_hyphen_place, digit_place, lower, nibble}
use Rattle.var_types.specs.declared.guid.Guid.{Guid}
use Rattle.var_types.specs.Guid.{guid_text}
use Rattle.var_types.specs.Texts.{attributes_text, bytes_text, escaped_text, is_dash, is_plain, name_text, spaced, unit_text}
use Rattle.report_text.specs.declared.word.Word.{Word}
use Rattle.report_text.specs.declared.word.Word.TheVariants as word
use Rattle.report_text.specs.Rule.{rule_text}
use Rattle.report_text.specs.Status.{status_text}
use Rattle.report_text.specs.Word.{word_text}
use Rattle.report_text.specs.declared.status.Status.{Status}
use Rattle.report_text.specs.declared.status.Status.TheVariants as status
use Rattle.var_types.specs.declared.ask.Rule.{Rule}
use Rattle.var_types.specs.declared.ask.Rule.TheVariants as rules

-- whether a byte may stand in a line: all but LF may
abbrev pub is_line_byte : ℕ → Bool
is_line_byte b = not (eqb b 10)

-- whether a byte may stand in a word: all but a space and LF may
abbrev pub is_word_byte : ℕ → Bool
is_word_byte b = is_line_byte b && not (eqb b 32)

-- a text may stand in a line
abbrev pub IsLine : List ℕ → Type 0
IsLine text = list_all is_line_byte text ≡ true

-- a text may stand in a word
abbrev pub IsWord : List ℕ → Type 0
IsWord text = list_all is_word_byte text ≡ true

-- each of some texts may stand in a word
abbrev pub AreWords : List (List ℕ) → Type 0
AreWords [] = Unit {0}
AreWords (w ∷ ws) = IsWord w × AreWords ws

-- each of some texts may stand in a line
abbrev pub AreLines : List (List ℕ) → Type 0
AreLines [] = Unit {0}
AreLines (l ∷ ls) = IsLine l × AreLines ls

-- a text of two texts
pub IsWord-append : (xs ys : List ℕ) → IsWord xs → IsWord ys → IsWord (xs ++ ys)
IsWord-append xs ys h k = list_all-append is_word_byte xs ys ∙ and_from _ _ h k

-- a word may stand in a line
pub IsLine-word : (w : List ℕ) → IsWord w → IsLine w
IsLine-word [] h = refl
IsLine-word (b ∷ bs) h =
    let parts = and_parts (is_word_byte b) (list_all is_word_byte bs) h in
    and_from _ _ (and_parts (is_line_byte b) (not (eqb b 32)) parts.0).0 (IsLine-word bs parts.1)

-- words may each stand in a line
pub AreLines-words : (ws : List (List ℕ)) → AreWords ws → AreLines ws
AreLines-words [] h = tt
AreLines-words (w ∷ ws) h = (IsLine-word w h.0, AreLines-words ws h.1)

-- so may texts with a space between each two, if each may
pub IsLine-spaced : (ws : List (List ℕ)) → AreLines ws → IsLine (spaced ws)
IsLine-spaced [] h = refl
IsLine-spaced (w ∷ []) h = h.0
IsLine-spaced (w ∷ v ∷ ws) h =
    list_all-append is_line_byte w (32 ∷ spaced (v ∷ ws)) ∙ and_from _ _ h.0 (IsLine-spaced (v ∷ ws) h.1)

-- ---- the texts of the parts of a line are words

-- the digit of a number below sixteen
glyph : (d : ℕ) → d < 16 → is_word_byte (digit_glyph false d) ≡ true
glyph d h = grind (arith, nat_tests)

-- digits before a word are a word
IsWord-digits_onto : (k n : ℕ) (acc : List ℕ) → IsWord acc → IsWord (digits_onto k 10 false n acc)
IsWord-digits_onto zero n acc h = h
IsWord-digits_onto (suc k) n acc h =
    let more : IsWord (digit_glyph false (n % 10) ∷ acc) = and_from _ _ (glyph (n % 10) (omega arith)) h in
    elim (eqb (n / 10) 0) as (λ b. IsWord (if b then digit_glyph false (n % 10) ∷ acc else digits_onto k 10 false (n / 10) (digit_glyph false (n % 10) ∷ acc))) [
      | true ↦ more
      | false ↦ IsWord-digits_onto k (n / 10) (digit_glyph false (n % 10) ∷ acc) more
    ]

-- a number is a word
pub IsWord-decimal : (n : ℕ) → IsWord (decimal n)
unfolding digits
IsWord-decimal n = IsWord-digits_onto 64 n [] refl

-- an element of a list whose elements pass, or a default that passes
passes_at : (p : ℕ → Bool) (t : List ℕ) (k d : ℕ) → list_all p t ≡ true → p d ≡ true → p (get_or t k d) ≡ true
passes_at p [] k d h e = e
passes_at p (x ∷ xs) zero d h e = (and_parts (p x) (list_all p xs) h).0
passes_at p (x ∷ xs) (suc k) d h e = passes_at p xs k d (and_parts (p x) (list_all p xs) h).1 e

-- hexadecimal digits are a word
pub IsWord-encode_lower : (bytes : List ℕ) → IsWord (encode_lower bytes)
unfolding encode_with
IsWord-encode_lower [] = refl
IsWord-encode_lower (b ∷ bs) =
    and_from _ _ (passes_at is_word_byte lower_digits (b / 16) 0 refl refl)
    (and_from _ _ (passes_at is_word_byte lower_digits (b % 16) 0 refl refl) (IsWord-encode_lower bs))

-- attributes are a word
pub IsWord-attributes_text : (n : ℕ) → IsWord (attributes_text n)
unfolding attributes_text
IsWord-attributes_text n = IsWord-encode_lower (to_be_bytes w32 n)

-- bytes are a word
pub IsWord-bytes_text : (bytes : List ℕ) → IsWord (bytes_text bytes)
unfolding bytes_text
IsWord-bytes_text bytes =
    elim (eqb (length bytes) 0) as (λ b. IsWord (if b then codes "-" else encode_lower bytes)) [
      | true ↦ refl
      | false ↦ IsWord-encode_lower bytes
    ]

-- characters given by their places are a word, if each is one of a word
IsWord-by_index : (n : ℕ) (f : ℕ → ℕ) → ((k : ℕ) → is_word_byte (f k) ≡ true) → IsWord (by_index n f)
unfolding by_index
IsWord-by_index zero f h = refl
IsWord-by_index (suc n) f h = IsWord-append (by_index n f) (f n ∷ []) (IsWord-by_index n f h) (and_from _ _ (h n) refl)

-- the digit of half a byte
nibble_word : (xs : List ℕ) (k : ℕ) → is_word_byte (hex_digit lower (nibble xs k)) ≡ true
nibble_word xs k =
    elim (eqb (k % 2) 0) as (λ b. is_word_byte (hex_digit lower (if b then get_or xs (k / 2) 0 / 16 % 16 else get_or xs (k / 2) 0 % 16)) ≡ true) [
      | true ↦ hex_word (get_or xs (k / 2) 0 / 16 % 16) (omega arith)
      | false ↦ hex_word (get_or xs (k / 2) 0 % 16) (omega arith)
    ]
  where
    hex_word : (d : ℕ) → d < 16 → is_word_byte (hex_digit lower d) ≡ true
    hex_word d h = grind (arith, nat_tests)

-- a GUID is a word
pub IsWord-guid_text : (guid : Guid) → IsWord (guid_text guid)
unfolding guid_text
IsWord-guid_text guid =
    IsWord-by_index 36 _ (λ k. elim (is_hyphen_place k) as (λ b. is_word_byte (if b then hyphen else hex_digit lower (nibble (swap_fields guid.bytes) (digit_place k))) ≡ true) [
      | true ↦ refl
      | false ↦ nibble_word (swap_fields guid.bytes) (digit_place k)
    ])

-- an escaped unit is a word
IsWord-escaped_text : (unit : ℕ) → IsWord (escaped_text unit)
unfolding escaped_text
IsWord-escaped_text unit = IsWord-encode_lower (to_be_bytes w16 unit)

-- a unit that stands for itself
plain_word : (unit : ℕ) → is_plain unit ≡ true → is_word_byte unit ≡ true
plain_word unit h = grind (arith, nat_tests)

-- a unit is a word
IsWord-unit_text : (unit : ℕ) → IsWord (unit_text unit)
unfolding unit_text
IsWord-unit_text unit =
    elim (is_plain unit) as (λ b. is_plain unit ≡ b → IsWord (if b then unit ∷ [] else escaped_text unit)) [
      | true ↦ λ h. and_from _ _ (plain_word unit h) refl
      | false ↦ λ h. IsWord-escaped_text unit
    ] refl

-- units are a word
IsWord-units : (units : List ℕ) → IsWord (flat_map unit_text units)
IsWord-units [] = refl
IsWord-units (u ∷ us) = IsWord-append (unit_text u) (flat_map unit_text us) (IsWord-unit_text u) (IsWord-units us)

-- a name is a word
pub IsWord-name_text : (units : List ℕ) → IsWord (name_text units)
unfolding name_text
IsWord-name_text units =
    elim (eqb (length units) 0) as (λ b. IsWord (if b then codes "-" else if is_dash units then escaped_text 45 else flat_map unit_text units)) [
      | true ↦ refl
      | false ↦
          elim (is_dash units) as (λ b. IsWord (if b then escaped_text 45 else flat_map unit_text units)) [
            | true ↦ IsWord-escaped_text 45
            | false ↦ IsWord-units units
          ]
    ]

-- a fixed word is a word
pub IsWord-word_text : (w : Word) → IsWord (word_text w)
unfolding word_text
IsWord-word_text word.History = refl
IsWord-word_text _ = refl

-- those of a status
pub IsWord-status_text : (w : Status) → IsWord (status_text w)
unfolding status_text
IsWord-status_text status.Success = refl
IsWord-status_text _ = refl

-- those of a rule
pub IsWord-rule_text : (r : Rule) → IsWord (rule_text r)
unfolding rule_text
IsWord-rule_text rules.MinSize = refl
IsWord-rule_text _ = refl
