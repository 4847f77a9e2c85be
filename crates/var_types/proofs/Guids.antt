-- The text of a GUID: its characters, and that it reads back.
use Rattle.std.proofs.Common.{◌≡◌, ℕ, ◌<◌, ◌≤◌, All, List, [], ◌∷◌, length, get_or, slice_index, Ok, if◌then◌else◌, inl, inr, refl, sym, ap, ◌∙◌, arith}
use Rattle.std.proofs.lemmas.Bool.{cases_lt, cond_both}
use Rattle.std.proofs.lemmas.Bool.Decides.{nat_tests}
use Rattle.std.proofs.lemmas.List.{get_or_past}
use Rattle.std.proofs.lemmas.List.Elements.{All-from_get_or, All-map}
use Rattle.uuid.proofs.RoundTrips.{parses_hyphenated, swap_twice}
use Rattle.uuid.proofs.TextLemmas.{by_index_at, by_index_length, nibble_small}
use Rattle.uuid.specs.Parts.{swap_fields}
use Rattle.uuid.specs.Text.{digit_place, hex_digit, is_hyphen_place, lower, nibble}
use Rattle.var_types.specs.declared.guid.Guid.{Guid}
use Rattle.var_types.specs.Guid.{IsGuid, guid_of, guid_text, stored_guid}

-- the element at any place is a byte, since past the end it is 0
at_byte : (xs : List ℕ) (k : ℕ) → All (λ b. b < 256) xs → slice_index xs k < 256
at_byte xs k bytes =
    elim (cases_lt k (length xs)) [
      | inl within ↦ bytes k 0 within
      | inr past ↦ rw (get_or_past xs k 0 past) (omega arith)
    ]

-- the places of the bytes, with the first three fields turned
places : List ℕ
places = 3 ∷ 2 ∷ 1 ∷ 0 ∷ 5 ∷ 4 ∷ 7 ∷ 6 ∷ 8 ∷ 9 ∷ 10 ∷ 11 ∷ 12 ∷ 13 ∷ 14 ∷ 15 ∷ []

-- the turned fields are bytes
AreBytes-swap_fields : (xs : List ℕ) → All (λ b. b < 256) xs → All (λ b. b < 256) (swap_fields xs)
unfolding places
AreBytes-swap_fields xs bytes =
    All-map (λ b. b < 256) (λ k. slice_index xs k) places (λ k d within. at_byte xs (get_or places k d) bytes)

-- the text of a GUID reads back
pub guid_of-guid_text : (guid : Guid) → IsGuid guid → guid_of (guid_text guid) ≡ Ok guid
unfolding guid_of guid_text
guid_of-guid_text guid is_guid =
    let turned = swap_fields guid.bytes in
    let read = parses_hyphenated lower turned (inl refl) refl (AreBytes-swap_fields guid.bytes is_guid.1) in
    sym (ap stored_guid read) ∙ ap (λ (bytes : List ℕ). Ok (record { bytes = bytes })) (swap_twice guid.bytes is_guid.0)

-- the text of a GUID has 36 characters
pub length-guid_text : (guid : Guid) → length (guid_text guid) ≡ 36
unfolding guid_text
length-guid_text guid = by_index_length 36 _

-- a lower-case digit is a letter or a digit
hex_digit_between : (d : ℕ) → d < 16 → (48 ≤ hex_digit lower d) × (hex_digit lower d ≤ 102)
hex_digit_between d small = (grind (arith, nat_tests), grind (arith, nat_tests))

-- each character of a GUID's text stands from `-` to `f`
pub guid_text_between : (guid : Guid) → All (λ c. (45 ≤ c) × (c ≤ 102)) (guid_text guid)
unfolding guid_text
guid_text_between guid =
    let turned = swap_fields guid.bytes in
    let digit_at : ℕ → ℕ = λ k. hex_digit lower (nibble turned (digit_place k)) in
    All-from_get_or (λ c. (45 ≤ c) × (c ≤ 102)) (guid_text guid) 0 (λ k within.
    let digit = hex_digit_between (nibble turned (digit_place k)) (nibble_small turned (digit_place k)) in
    let at : get_or (guid_text guid) k 0 ≡ (if is_hyphen_place k then 45 else digit_at k) =
    by_index_at 36 (λ j. if is_hyphen_place j then 45 else digit_at j) k 0 (omega (arith, length-guid_text guid)) in
    rw at (
    cond_both (is_hyphen_place k) 45 (digit_at k) (λ c. (45 ≤ c) × (c ≤ 102))
    (λ _. (omega arith, omega arith)) (λ _. (omega (arith, digit.0), digit.1))
    ))
