use Rattle.std.proofs.Common.{◌≡◌, ℕ, ◌^◌, ◌<◌, true, false, eqb, if◌then◌else◌, List, [], ◌∷◌, length, slice_index, codes, All, Some, refl, sym, ap, ◌∙◌, arith, inl, inr}
use Rattle.std.proofs.lemmas.Bool.{cases_lt, eqb-true}
use Rattle.std.proofs.lemmas.List.{append_cancel_left, get_or_past}
use Rattle.std.proofs.lemmas.List.Elements.{All-from_recursion}
use Rattle.std.proofs.lemmas.Nat.{from_be_bytes-to_be_bytes_4}
use Rattle.std.specs.Int.{to_be_bytes, from_be_bytes, w16, w32}
use Rattle.hex.specs.Hex.{IsBytes, encode_lower, encode_with, decode_of, decode_pairs}
use Rattle.hex.proofs.HexLemmas.{decode_of-encode_lower}
use Rattle.uuid.specs.Parts.{swap_fields}
use Rattle.uuid.specs.Text.{lower, parsed}
use Rattle.uuid.proofs.RoundTrips.{parses_hyphenated, swap_twice}
use Rattle.var_types.specs.declared.guid.Guid.{Guid}
use Rattle.var_types.specs.Guid.{IsGuid, guid_text}
use Rattle.var_types.specs.Texts.{attributes_text, bytes_text}
use Rattle.var_types.specs.Values.{AreBytes}

-- the bytes of a list, also past its end
IsBytes-from_all : (bytes : List ℕ) → AreBytes bytes → IsBytes bytes
IsBytes-from_all bytes h i =
    elim (cases_lt i (length bytes)) [
      | inl within ↦ h i 0 within
      | inr past ↦
          let none : slice_index bytes i ≡ 0 = get_or_past bytes i 0 past in
          omega (arith, none)
    ]

-- the two bytes of a number
pub IsBytes-be_2 : (n : ℕ) → IsBytes (to_be_bytes w16 n)
IsBytes-be_2 n = IsBytes-from_all (to_be_bytes w16 n) (All-from_recursion (λ b. b < 2 ^ 8) (to_be_bytes w16 n) (omega arith))

-- the four bytes of a number
IsBytes-be_4 : (n : ℕ) → IsBytes (to_be_bytes w32 n)
IsBytes-be_4 n = IsBytes-from_all (to_be_bytes w32 n) (All-from_recursion (λ b. b < 2 ^ 8) (to_be_bytes w32 n) (omega arith))

-- bytes of one hexadecimal text
pub same_hex : (xs ys : List ℕ) → IsBytes xs → IsBytes ys → encode_lower xs ≡ encode_lower ys → xs ≡ ys
same_hex xs ys h k e =
    let f = decode_of-encode_lower xs h in
    let g = decode_of-encode_lower ys k in
    let read : decode_of (encode_lower xs) ≡ decode_of (encode_lower ys) = ap decode_of e in
    cc

-- attributes of one text
pub same_attributes : (m n : ℕ) → m < 2 ^ 32 → n < 2 ^ 32 → attributes_text m ≡ attributes_text n → m ≡ n
unfolding attributes_text
same_attributes m n h k e =
    let digits : encode_lower (to_be_bytes w32 m) ≡ encode_lower (to_be_bytes w32 n) = append_cancel_left (codes "0x") _ _ e in
    sym (from_be_bytes-to_be_bytes_4 m h)
    ∙ ap (from_be_bytes w32) (same_hex (to_be_bytes w32 m) (to_be_bytes w32 n) (IsBytes-be_4 m) (IsBytes-be_4 n) digits)
    ∙ from_be_bytes-to_be_bytes_4 n k

-- `-` is no hexadecimal digits
no_dash : (xs : List ℕ) → IsBytes xs → codes "-" ≡ encode_lower xs → ⊥
no_dash xs h e =
    let read = decode_of-encode_lower xs h in
    let same : decode_of (codes "-") ≡ decode_of (encode_lower xs) = ap decode_of e in
    cc

-- a list that tests as empty
pub none_from_test : (xs : List ℕ) → eqb (length xs) 0 ≡ true → xs ≡ []
none_from_test [] h = refl
none_from_test (x ∷ xs) h = absurd (let e : length (x ∷ xs) ≡ 0 = eqb-true _ _ h in omega (arith, e))

-- bytes of one text
pub same_bytes : (xs ys : List ℕ) → AreBytes xs → AreBytes ys → bytes_text xs ≡ bytes_text ys → xs ≡ ys
unfolding bytes_text
same_bytes xs ys h k =
    elim (eqb (length xs) 0) as (λ b. eqb (length xs) 0 ≡ b → (if b then codes "-" else encode_lower xs) ≡ bytes_text ys → xs ≡ ys) [
      | true ↦ λ none. elim (eqb (length ys) 0) as (λ d. eqb (length ys) 0 ≡ d → codes "-" ≡ (if d then codes "-" else encode_lower ys) → xs ≡ ys) [
        | true ↦ λ also e. none_from_test xs none ∙ sym (none_from_test ys also)
        | false ↦ λ some e. absurd (no_dash ys (IsBytes-from_all ys k) e)
      ] refl
      | false ↦ λ some. elim (eqb (length ys) 0) as (λ d. eqb (length ys) 0 ≡ d → encode_lower xs ≡ (if d then codes "-" else encode_lower ys) → xs ≡ ys) [
        | true ↦ λ none e. absurd (no_dash xs (IsBytes-from_all xs h) (sym e))
        | false ↦ λ also e. same_hex xs ys (IsBytes-from_all xs h) (IsBytes-from_all ys k) e
      ] refl
    ] refl

-- what the words of policy aren't
abbrev IsNoWord : List ℕ → Type 0
IsNoWord text = (text ≡ codes "on" → ⊥) × (text ≡ codes "off" → ⊥) × (text ≡ [] → ⊥)

-- the digits of some bytes are some
some_hex : (bytes : List ℕ) → eqb (length bytes) 0 ≡ false → encode_lower bytes ≡ [] → ⊥
unfolding encode_with
some_hex [] some e = cc
some_hex (b ∷ bs) some e = cc

-- hexadecimal digits are none of these words
no_hex : (bytes : List ℕ) → IsBytes bytes → eqb (length bytes) 0 ≡ false → IsNoWord (encode_lower bytes)
unfolding decode_pairs
no_hex bytes h some =
    let read = decode_of-encode_lower bytes h in (
      λ e. let same : decode_of (encode_lower bytes) ≡ decode_of (codes "on") = ap decode_of e in cc,
      λ e. let same : decode_of (encode_lower bytes) ≡ decode_of (codes "off") = ap decode_of e in cc,
      some_hex bytes some,
    )

-- no bytes print as `on`, as `off`, or as nothing
pub no_bytes_text : (bytes : List ℕ) → AreBytes bytes → IsNoWord (bytes_text bytes)
unfolding bytes_text
no_bytes_text bytes are =
    elim (eqb (length bytes) 0) as (λ b. eqb (length bytes) 0 ≡ b → IsNoWord (if b then codes "-" else encode_lower bytes)) [
      | true ↦ λ none. (λ e. cc, λ e. cc, λ e. cc)
      | false ↦ λ some. no_hex bytes (IsBytes-from_all bytes are) some
    ] refl

-- ---- GUIDs

-- bytes with the first three fields turned are bytes
swapped_bytes : (xs : List ℕ) → length xs ≡ 16 → AreBytes xs → All (λ b. b < 256) (swap_fields xs)
swapped_bytes xs len h =
    let byte : (i : ℕ) → i < 16 → slice_index xs i < 256 = λ i within. h i 0 (omega arith) in
    All-from_recursion (λ b. b < 256) (swap_fields xs)
    (omega (arith, byte 0, byte 1, byte 2, byte 3, byte 4, byte 5, byte 6, byte 7, byte 8, byte 9, byte 10, byte 11, byte 12, byte 13, byte 14, byte 15))

-- a GUID's text parses to its bytes, the first three fields turned
parsed_guid : (g : Guid) → IsGuid g → Some (swap_fields g.bytes) ≡ parsed (guid_text g)
unfolding guid_text
parsed_guid g h = parses_hyphenated lower (swap_fields g.bytes) (inl refl) refl (swapped_bytes g.bytes h.0 h.1)

-- GUIDs of one text
pub same_guids : (a b : Guid) → IsGuid a → IsGuid b → guid_text a ≡ guid_text b → a ≡ b
same_guids a b h k e =
    let first = parsed_guid a h in
    let second = parsed_guid b k in
    let read : parsed (guid_text a) ≡ parsed (guid_text b) = ap parsed e in
    let turned : swap_fields a.bytes ≡ swap_fields b.bytes = cc in
    let bytes : a.bytes ≡ b.bytes = sym (swap_twice a.bytes h.0) ∙ ap swap_fields turned ∙ swap_twice b.bytes k.0 in
    let guid : List ℕ → Guid = λ bs. record { bytes = bs } in
    ap guid bytes
