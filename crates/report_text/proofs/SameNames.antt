use Rattle.std.proofs.Common.{◌≡◌, ℕ, ◌^◌, ◌<◌, Bool, true, false, eqb, if◌then◌else◌, List, [], ◌∷◌, ◌++◌, length, take, drop, flat_map, codes, refl, sym, ap, ◌∙◌, arith}
use Rattle.std.proofs.lemmas.Bool.{false≢true, true≢false}
use Rattle.std.proofs.lemmas.List.{append-nil, take_at, drop_at}
use Rattle.std.proofs.lemmas.List.Elements.{All-from_recursion, All-head, All-tail}
use Rattle.std.proofs.lemmas.Nat.{from_be_bytes-to_be_bytes_2}
use Rattle.std.proofs.lemmas.Slice.Eq.{bytes_eq-Decides}
use Rattle.std.specs.Int.{to_be_bytes, from_be_bytes, w16}
use Rattle.hex.specs.Hex.{encode_lower, lower_digits}
use Rattle.hex.proofs.HexLemmas.{length-encode_with}
use Rattle.var_types.specs.Texts.{escaped_text, is_dash, is_plain, name_text, unit_text}
use Rattle.var_types.specs.Values.{AreUnits}
use Rattle.report_text.proofs.SameTexts.{IsBytes-be_2, same_hex, none_from_test}

-- no unit that stands for itself is `%`
no_percent : (u : ℕ) → is_plain u ≡ true → 37 ≡ u → ⊥
no_percent u h e = true≢false (sym h ∙ ap is_plain (sym e))

-- two units with texts behind their escapes
same_escaped : (u v : ℕ) (xs ys : List ℕ) → u < 2 ^ 16 → v < 2 ^ 16 → escaped_text u ++ xs ≡ escaped_text v ++ ys → (u ≡ v) × (xs ≡ ys)
unfolding escaped_text
same_escaped u v xs ys h k e =
    let first = encode_lower (to_be_bytes w16 u) in
    let second = encode_lower (to_be_bytes w16 v) in
    let behind : first ++ xs ≡ second ++ ys = cc in
    let four : length first ≡ 4 = length-encode_with lower_digits (to_be_bytes w16 u) in
    let also : length second ≡ 4 = length-encode_with lower_digits (to_be_bytes w16 v) in
    let digits : first ≡ second = sym (take_at first xs 4 four) ∙ ap (take 4) behind ∙ take_at second ys 4 also in (
      sym (from_be_bytes-to_be_bytes_2 u h)
          ∙ ap (from_be_bytes w16) (same_hex (to_be_bytes w16 u) (to_be_bytes w16 v) (IsBytes-be_2 u) (IsBytes-be_2 v) digits)
          ∙ from_be_bytes-to_be_bytes_2 v k,
      sym (drop_at first xs 4 four) ∙ ap (drop 4) behind ∙ drop_at second ys 4 also,
    )

-- a unit that stands for itself isn't an escaped one
no_escape : (u v : ℕ) (xs ys : List ℕ) → is_plain u ≡ true → u ∷ xs ≡ escaped_text v ++ ys → ⊥
unfolding escaped_text
no_escape u v xs ys h e = no_percent u h (cc)

-- two units with texts behind them, by whether each stands for itself
same_unit_by : (b d : Bool) (u v : ℕ) (xs ys : List ℕ) → is_plain u ≡ b → is_plain v ≡ d → u < 2 ^ 16 → v < 2 ^ 16
    → (if b then u ∷ [] else escaped_text u) ++ xs ≡ (if d then v ∷ [] else escaped_text v) ++ ys → (u ≡ v) × (xs ≡ ys)
same_unit_by true true u v xs ys p q h k e = ((cc), (cc))
same_unit_by true false u v xs ys p q h k e = absurd (no_escape u v xs ys p e)
same_unit_by false true u v xs ys p q h k e = absurd (no_escape v u ys xs q (sym e))
same_unit_by false false u v xs ys p q h k e = same_escaped u v xs ys h k e

-- two units with texts behind theirs
same_unit : (u v : ℕ) (xs ys : List ℕ) → u < 2 ^ 16 → v < 2 ^ 16 → unit_text u ++ xs ≡ unit_text v ++ ys → (u ≡ v) × (xs ≡ ys)
unfolding unit_text
same_unit u v xs ys h k e = same_unit_by (is_plain u) (is_plain v) u v xs ys refl refl h k e

-- a unit has a text, by whether it stands for itself
some_unit_by : (b : Bool) (u : ℕ) (xs : List ℕ) → [] ≡ (if b then u ∷ [] else escaped_text u) ++ xs → ⊥
unfolding escaped_text
some_unit_by true u xs e = cc
some_unit_by false u xs e = cc

-- a unit has a text
some_unit : (u : ℕ) (xs : List ℕ) → [] ≡ unit_text u ++ xs → ⊥
unfolding unit_text
some_unit u xs e = some_unit_by (is_plain u) u xs e

-- units of one text
same_units : (us vs : List ℕ) → AreUnits us → AreUnits vs → flat_map unit_text us ≡ flat_map unit_text vs → us ≡ vs
same_units [] [] h k e = refl
same_units [] (v ∷ vs) h k e = absurd (some_unit v (flat_map unit_text vs) e)
same_units (u ∷ us) [] h k e = absurd (some_unit u (flat_map unit_text us) (sym e))
same_units (u ∷ us) (v ∷ vs) h k e =
    let IsUnit : ℕ → Type 0 = λ x. x < 2 ^ 16 in
    let first = same_unit u v (flat_map unit_text us) (flat_map unit_text vs) (All-head IsUnit u us h) (All-head IsUnit v vs k) e in
    let one : u ≡ v = first.0 in
    let rest : us ≡ vs = same_units us vs (All-tail IsUnit u us h) (All-tail IsUnit v vs k) first.1 in
    cc

-- ---- whole names

-- units that test as `-`
dash_units : (us : List ℕ) → is_dash us ≡ true → us ≡ 45 ∷ []
dash_units us h = (bytes_eq-Decides us (codes "-")).0 h

-- `-` is the text of no units but itself
no_dash_units : (us : List ℕ) → AreUnits us → is_dash us ≡ false → codes "-" ≡ flat_map unit_text us → ⊥
unfolding unit_text
no_dash_units us h d e =
    let one : AreUnits (45 ∷ []) = All-from_recursion (λ x. x < 2 ^ 16) (45 ∷ []) (omega arith) in
    let same : 45 ∷ [] ≡ us = same_units (45 ∷ []) us one h e in
    false≢true (sym d ∙ ap is_dash (sym same))

-- an escaped `-` is no first unit's text, by whether that stands for itself
no_escaped_by : (b : Bool) (u : ℕ) (rest : List ℕ) → is_plain u ≡ b → u < 2 ^ 16 → (if b then u ∷ [] else escaped_text u) ++ rest ≡ escaped_text 45 ++ [] → ⊥
no_escaped_by true u rest p h e = no_escape u 45 rest [] p e
no_escaped_by false u rest p h e = false≢true (sym p ∙ ap is_plain (same_escaped u 45 rest [] h (omega arith) e).0)

-- an escaped `-` is the text of no units
no_escaped_units : (us : List ℕ) → AreUnits us → escaped_text 45 ≡ flat_map unit_text us → ⊥
unfolding unit_text escaped_text
no_escaped_units [] h e = cc
no_escaped_units (u ∷ us) h e =
    no_escaped_by (is_plain u) u (flat_map unit_text us) refl (All-head (λ x. x < 2 ^ 16) u us h) (sym e ∙ sym (append-nil (escaped_text 45)))

-- nor is it `-`
no_escaped_dash : codes "-" ≡ escaped_text 45 → ⊥
unfolding escaped_text
no_escaped_dash e = cc

-- names of one text, by whether each is none, and whether it is `-`
same_names_by : (n d m f : Bool) (us vs : List ℕ) → eqb (length us) 0 ≡ n → is_dash us ≡ d → eqb (length vs) 0 ≡ m → is_dash vs ≡ f
    → AreUnits us → AreUnits vs
    → (if n then codes "-" else if d then escaped_text 45 else flat_map unit_text us) ≡ (if m then codes "-" else if f then escaped_text 45 else flat_map unit_text vs)
    → us ≡ vs
same_names_by true d true f us vs p q r s h k e = none_from_test us p ∙ sym (none_from_test vs r)
same_names_by true d false true us vs p q r s h k e = absurd (no_escaped_dash e)
same_names_by true d false false us vs p q r s h k e = absurd (no_dash_units vs k s e)
same_names_by false true true f us vs p q r s h k e = absurd (no_escaped_dash (sym e))
same_names_by false false true f us vs p q r s h k e = absurd (no_dash_units us h q (sym e))
same_names_by false true false true us vs p q r s h k e = dash_units us q ∙ sym (dash_units vs s)
same_names_by false true false false us vs p q r s h k e = absurd (no_escaped_units vs k e)
same_names_by false false false true us vs p q r s h k e = absurd (no_escaped_units us h (sym e))
same_names_by false false false false us vs p q r s h k e = same_units us vs h k e

-- names of one text
pub same_names : (us vs : List ℕ) → AreUnits us → AreUnits vs → name_text us ≡ name_text vs → us ≡ vs
unfolding name_text
same_names us vs h k e = same_names_by (eqb (length us) 0) (is_dash us) (eqb (length vs) 0) (is_dash vs) us vs refl refl refl refl h k e
