-- The words of a line, cut off one after the other.
use Rattle.std.proofs.Common.{◌≡◌, ℕ, ◌+◌, ◌-◌, ◌<◌, ◌≤◌, true, false, ltb, eqb, List, [], ◌∷◌, length, take, drop, position, Some, None, refl, sym, ap, ◌∙◌, inl, inr, arith, if◌then◌else◌}
use Rattle.std.specs.Prelude.{not, filter}
use Rattle.std.specs.List.{slice_split, onto_first, position_or_len}
use Rattle.std.proofs.lemmas.Bool.{cases_Bool, ltb-true, ltb-false, ne_eqb}
use Rattle.std.proofs.lemmas.List.{take_all, length-drop}
use Rattle.std.proofs.lemmas.List.Splits.{slice_split_first}
use Rattle.script_text.specs.Lines.{is_blank, words_of}
use Rattle.script_text.proofs.LineLemmas.{found, missing}

-- the words of a part and of those behind it
abbrev with_part : List ℕ → List (List ℕ) → List (List ℕ)
with_part part words = if eqb (length part) 0 then words else part ∷ words

filter_part : (part : List ℕ) (parts : List (List ℕ)) → filter (λ word. not (eqb (length word) 0)) (part ∷ parts)
    ≡ with_part part (filter (λ word. not (eqb (length word) 0)) parts)
filter_part [] parts = refl
filter_part (c ∷ part) parts = let some : eqb (length (c ∷ part)) 0 ≡ false = ne_eqb _ _ (λ e. omega arith) in rw some refl

-- the part before the first blank, and the words behind it
pub words_at : (text : List ℕ) (at : ℕ) → Some at ≡ position is_blank text
    → words_of text ≡ (if eqb (length (take at text)) 0 then words_of (take (length text - (at + 1)) (drop (at + 1) text))
    else take at text ∷ words_of (take (length text - (at + 1)) (drop (at + 1) text)))
unfolding words_of
words_at text at h =
    let here = found (ltb (position_or_len is_blank text) (length text)) (position_or_len is_blank text) at h in
    let within : position_or_len is_blank text < length text = ltb-true _ _ here.0 in
    let cut : slice_split is_blank text ≡ take at text ∷ slice_split is_blank (drop (at + 1) text) =
    slice_split_first is_blank text 0 within ∙ ap (λ (n : ℕ). take n text ∷ slice_split is_blank (drop (n + 1) text)) (sym here.1) in
    let whole : take (length text - (at + 1)) (drop (at + 1) text) ≡ drop (at + 1) text = take_all _ _ (omega (arith, length-drop (at + 1) text)) in
    rw whole (ap (filter (λ word. not (eqb (length word) 0))) cut ∙ filter_part (take at text) (slice_split is_blank (drop (at + 1) text)))

-- a text without a blank is one part
one_part : (text : List ℕ) → length text ≤ position_or_len is_blank text → slice_split is_blank text ≡ text ∷ []
one_part [] h = refl
one_part (c ∷ cs) h =
    elim (cases_Bool (is_blank c)) [
      | inl blank ↦ absurd (let none : position_or_len is_blank (c ∷ cs) ≡ 0 = rw blank refl in omega arith)
      | inr other ↦ let past : position_or_len is_blank (c ∷ cs) ≡ 1 + position_or_len is_blank cs = rw other refl in rw other (ap (onto_first c) (one_part cs (omega arith)))
    ]

-- and one word, where it has a character
pub words_last : (text : List ℕ) → None ≡ position is_blank text
    → words_of text ≡ (if eqb (length text) 0 then words_of [] else text ∷ words_of [])
unfolding words_of
words_last text none =
    let past : length text ≤ position_or_len is_blank text =
    ltb-false _ _ (missing (ltb (position_or_len is_blank text) (length text)) (position_or_len is_blank text) none) in
    ap (filter (λ word. not (eqb (length word) 0))) (one_part text past) ∙ filter_part text []

-- no characters have no words
pub words_of-none : (text : List ℕ) → true ≡ eqb (length text) 0 → words_of text ≡ []
unfolding words_of
words_of-none [] none = refl
words_of-none (c ∷ text) none = let some : eqb (length (c ∷ text)) 0 ≡ _ = ne_eqb _ _ (λ e. omega arith) in absurd cc
