-- The text of a name reads back.
use Rattle.std.proofs.Common.{◌≡◌, ℕ, ◌+◌, ◌*◌, ◌/◌, ◌%◌, ◌^◌, ◌<◌, ◌≤◌, true, false, eqb, List, [], ◌∷◌, ◌++◌, length, All, Option, Some, Ok, refl, sym, ap, subst, ◌∙◌, inl, inr, arith, length-append}
use Rattle.std.specs.Prelude.{not}
use Rattle.std.specs.Int.{to_be_bytes, w16}
use Rattle.std.specs.List.{flat_map, list_all}
use Rattle.std.specs.Option.{unwrap_or}
use Rattle.std.proofs.lemmas.Bool.{and_from, and_parts, cases_Bool, false≢true, le-leb, ne_eqb}
use Rattle.std.proofs.lemmas.Bool.Decides.{nat_tests}
use Rattle.std.proofs.lemmas.List.Elements.{All-from_recursion, All-head, All-tail}
use Rattle.std.proofs.lemmas.List.Folds.{list_all-append}
use Rattle.std.proofs.lemmas.Slice.Eq.{bytes_eq-Decides}
use Rattle.hex.specs.Hex.{encode_with, hex_digit_value}
use Rattle.var_types.specs.Texts.{escaped_text, is_dash, is_plain, name_text, unit_text}
use Rattle.script_text.specs.Names.{before_units, escaped_unit, name_of, name_within, units_of}
use Rattle.script_text.proofs.HexTexts.{digit_of, hex_digit_value-digit_of, is_word_byte-digit_of, list_all-encode_lower}
use Rattle.script_text.proofs.NameLemmas.{units_of-cons}
use Rattle.script_text.proofs.WordLemmas.{IsWord, is_word_byte}

-- four digits by their values
escaped_unit-digits : (a b c d w x y z : ℕ) → hex_digit_value a ≡ Some w → hex_digit_value b ≡ Some x → hex_digit_value c ≡ Some y
    → hex_digit_value d ≡ Some z → escaped_unit a b c d ≡ Some (w * 4096 + x * 256 + y * 16 + z)
escaped_unit-digits a b c d w x y z is_w is_x is_y is_z = rw (is_w, is_x, is_y, is_z) refl

-- the four digits of a unit are read as it
escaped_unit-unit : (unit : ℕ) → unit < 2 ^ 16
    → escaped_unit (digit_of (unit / 256 % 256 / 16)) (digit_of (unit / 256 % 256 % 16)) (digit_of (unit % 256 / 16)) (digit_of (unit % 256 % 16)) ≡ Some unit
escaped_unit-unit unit small =
    let a : unit / 256 % 256 / 16 < 16 = omega arith in
    let b : unit / 256 % 256 % 16 < 16 = omega arith in
    let c : unit % 256 / 16 < 16 = omega arith in
    let d : unit % 256 % 16 < 16 = omega arith in
    let whole : unit / 256 % 256 / 16 * 4096 + unit / 256 % 256 % 16 * 256 + unit % 256 / 16 * 16 + unit % 256 % 16 ≡ unit = omega arith in
    escaped_unit-digits (digit_of (unit / 256 % 256 / 16)) (digit_of (unit / 256 % 256 % 16)) (digit_of (unit % 256 / 16)) (digit_of (unit % 256 % 16)) _ _ _ _
    (hex_digit_value-digit_of _ a) (hex_digit_value-digit_of _ b) (hex_digit_value-digit_of _ c) (hex_digit_value-digit_of _ d)
    ∙ ap Some whole

-- the text of a unit before others is read as the unit before theirs
units_of-unit_text : (unit : ℕ) (rest : List ℕ) → unit < 2 ^ 16 → units_of (unit_text unit ++ rest) ≡ before_units (Some unit) (units_of rest)
unfolding unit_text escaped_text encode_with
units_of-unit_text unit rest small =
    elim (cases_Bool (is_plain unit)) [
      | inl plain ↦
          let no_percent : eqb unit 37 ≡ false = grind (arith, nat_tests) in
          rw plain (units_of-cons unit rest ∙ rw (plain, no_percent) refl)
      | inr escaped ↦ rw escaped (units_of-cons 37 _ ∙ rw (escaped_unit-unit unit small) refl)
    ]

-- the texts of units are read as them
units_of-flat_map : (units : List ℕ) → All (λ unit. unit < 2 ^ 16) units → units_of (flat_map unit_text units) ≡ Some units
unfolding units_of
units_of-flat_map [] small = refl
units_of-flat_map (unit ∷ units) small =
    units_of-unit_text unit (flat_map unit_text units) (All-head (λ unit. unit < 2 ^ 16) unit units small)
    ∙ ap (before_units (Some unit)) (units_of-flat_map units (All-tail (λ unit. unit < 2 ^ 16) unit units small))

-- a dash is the unit `-`
units_of-dash : units_of (45 ∷ []) ≡ Some (45 ∷ [])
unfolding units_of
units_of-dash = refl

-- the texts of units are a dash only where the units are
no_dash : (units : List ℕ) → All (λ unit. unit < 2 ^ 16) units → is_dash units ≡ false → is_dash (flat_map unit_text units) ≡ false
no_dash units small other =
    elim (cases_Bool (is_dash (flat_map unit_text units))) [
      | inl dash ↦
          let text : flat_map unit_text units ≡ 45 ∷ [] = (bytes_eq-Decides _ _).0 dash in
          let read : Some units ≡ Some (45 ∷ []) = sym (units_of-flat_map units small) ∙ ap units_of text ∙ units_of-dash in
          let same : units ≡ 45 ∷ [] = ap (λ (o : Option (List ℕ)). unwrap_or o []) read in
          absurd (false≢true (sym other ∙ ap is_dash same))
      | inr none ↦ none
    ]

-- the name `-` is escaped, and read as itself
name_of-dash : name_of (name_text (45 ∷ [])) ≡ Ok (45 ∷ [])
unfolding name_of name_text units_of escaped_text encode_with
name_of-dash = refl

-- the text of a name is read as the name
pub name_of-name_text : (units : List ℕ) → length units ≤ 1024 → All (λ unit. unit < 2 ^ 16) units → name_of (name_text units) ≡ Ok units
unfolding name_of name_text
name_of-name_text [] few small = refl
name_of-name_text (unit ∷ units) few small =
    let longer : eqb (length (unit ∷ units)) 0 ≡ false = ne_eqb _ _ (λ e. omega arith) in
    elim (cases_Bool (is_dash (unit ∷ units))) [
      | inl dash ↦
          let same : unit ∷ units ≡ 45 ∷ [] = (bytes_eq-Decides _ _).0 dash in
          subst (λ (name : List ℕ). name_of (name_text name) ≡ Ok name) (sym same) name_of-dash
      | inr other ↦
          rw (longer, other, no_dash (unit ∷ units) small other) (
          ap name_within (units_of-flat_map (unit ∷ units) small) ∙ rw (le-leb (length (unit ∷ units)) 1024 few) refl
          )
    ]

-- ---- the text of a name is a word

-- the two bytes of a unit are bytes
AreBytes-to_be_bytes : (unit : ℕ) → All (λ b. b < 256) (to_be_bytes w16 unit)
AreBytes-to_be_bytes unit = All-from_recursion (λ b. b < 256) (to_be_bytes w16 unit) (omega arith, (omega arith, tt))

-- an escaped unit is a word
IsWord-escaped_text : (unit : ℕ) → IsWord (escaped_text unit)
unfolding escaped_text
IsWord-escaped_text unit = record {
  some = omega arith;
  printed = list_all-encode_lower is_word_byte is_word_byte-digit_of (to_be_bytes w16 unit) (AreBytes-to_be_bytes unit);
}

-- the text of a unit is a word
IsWord-unit_text : (unit : ℕ) → IsWord (unit_text unit)
unfolding unit_text
IsWord-unit_text unit =
    elim (cases_Bool (is_plain unit)) [
      | inl plain ↦
          let printed = and_parts (is_word_byte unit) (not (eqb unit 37)) plain in
          rw plain (record { some = omega arith; printed = and_from (is_word_byte unit) true printed.0 refl })
      | inr escaped ↦ rw escaped (IsWord-escaped_text unit)
    ]

-- the texts of units have no other characters
list_all-flat_map : (units : List ℕ) → list_all is_word_byte (flat_map unit_text units) ≡ true
list_all-flat_map [] = refl
list_all-flat_map (unit ∷ units) =
    list_all-append is_word_byte (unit_text unit) (flat_map unit_text units)
    ∙ and_from _ _ (IsWord-unit_text unit).printed (list_all-flat_map units)

-- the text of a name is a word
pub IsWord-name_text : (units : List ℕ) → IsWord (name_text units)
unfolding name_text
IsWord-name_text [] = record { some = omega arith; printed = refl }
IsWord-name_text (unit ∷ units) =
    let longer : eqb (length (unit ∷ units)) 0 ≡ false = ne_eqb _ _ (λ e. omega arith) in
    let first : 0 < length (unit_text unit) = (IsWord-unit_text unit).some in
    elim (cases_Bool (is_dash (unit ∷ units))) [
      | inl dash ↦ rw (longer, dash) (IsWord-escaped_text 45)
      | inr other ↦ rw (longer, other) (record {
        some = omega (arith, length-append (unit_text unit) (flat_map unit_text units));
        printed = list_all-flat_map (unit ∷ units);
      })
    ]
