-- The lines of a text, cut off one after the other.
use Rattle.std.proofs.Common.{◌≡◌, ℕ, ◌+◌, ◌-◌, ◌<◌, ◌≤◌, Bool, true, false, cond, ltb, eqb, List, [], ◌∷◌, ◌++◌, length, All, slice_index, take, drop, position, Some, None, refl, sym, ap, ◌∙◌, inl, inr, arith}
use Rattle.std.specs.List.{slice_split, onto_first, position_or_len}
use Rattle.std.specs.Str.Lines.{lines, lines_of_parts, strip_carriage_return}
use Rattle.std.proofs.lemmas.Bool.{cases_Bool, ltb-true, ltb-false, ne_eqb}
use Rattle.std.proofs.lemmas.List.{take_all, length-drop}
use Rattle.std.proofs.lemmas.Bool.Decides.{nat_tests}
use Rattle.std.proofs.lemmas.List.Elements.{All-weaker}
use Rattle.std.proofs.lemmas.List.Splits.{slice_split_at, slice_split_first, slice_split_none, length-slice_split}
use Rattle.std.proofs.lemmas.List.Sums.{AllPass-from_list_all}
use Rattle.script_text.specs.Lines.{is_text, is_text_byte}

-- whether a byte is a line feed
abbrev pub is_feed : ℕ → Bool
is_feed c = eqb c 10

-- what a position says
pub found : (b : Bool) (at end : ℕ) → Some end ≡ cond b (Some at) None → (b ≡ true) × (end ≡ at)
found true at end h = (refl, cc)
found false at end h = absurd cc

pub missing : (b : Bool) (at : ℕ) → None ≡ cond b (Some at) None → b ≡ false
missing true at h = absurd cc
missing false at h = refl

-- a part with parts behind it is a line less its carriage return
pub more_parts : (part : List ℕ) (parts : List (List ℕ)) → 0 < length parts → lines_of_parts (part ∷ parts) ≡ strip_carriage_return part ∷ lines_of_parts parts
more_parts part [] h = absurd (omega arith)
more_parts part (next ∷ parts) h = refl

-- the line before the first line feed, and the lines behind it
pub first_of_lines : (text line : List ℕ) (end : ℕ) → Some end ≡ position is_feed text → line ≡ strip_carriage_return (take end text) → lines text ≡ line ∷ lines (take (length text - (end + 1)) (drop (end + 1) text))
first_of_lines text line end at stripped =
    let here = found (ltb (position_or_len is_feed text) (length text)) (position_or_len is_feed text) end at in
    let within : position_or_len is_feed text < length text = ltb-true _ _ here.0 in
    let behind = slice_split is_feed (drop (end + 1) text) in
    let cut : slice_split is_feed text ≡ take end text ∷ behind = slice_split_first is_feed text 0 within ∙ ap (λ (n : ℕ). take n text ∷ slice_split is_feed (drop (n + 1) text)) (sym here.1) in
    let some : 0 < length behind = omega (arith, length-slice_split is_feed (drop (end + 1) text)) in
    let whole : take (length text - (end + 1)) (drop (end + 1) text) ≡ drop (end + 1) text = take_all _ _ (omega (arith, length-drop (end + 1) text)) in
    rw (whole, stripped) (ap lines_of_parts cut ∙ more_parts (take end text) behind some)

-- a text without a line feed is one part
one_part : (text : List ℕ) → length text ≤ position_or_len is_feed text → slice_split is_feed text ≡ text ∷ []
one_part [] h = refl
one_part (c ∷ cs) h =
    elim (cases_Bool (is_feed c)) [
      | inl feed ↦ absurd (let none : position_or_len is_feed (c ∷ cs) ≡ 0 = rw feed refl in omega arith)
      | inr other ↦ let past : position_or_len is_feed (c ∷ cs) ≡ 1 + position_or_len is_feed cs = rw other refl in rw other (ap (onto_first c) (one_part cs (omega arith)))
    ]

-- a text without a line feed is one line, with its carriage return
pub last_of_lines : (text : List ℕ) → None ≡ position is_feed text → 0 < length text → lines text ≡ text ∷ []
last_of_lines text none some =
    let past : length text ≤ position_or_len is_feed text = ltb-false _ _ (missing (ltb (position_or_len is_feed text) (length text)) (position_or_len is_feed text) none) in
    let longer : eqb (length text) 0 ≡ false = ne_eqb _ _ (λ e. omega arith) in
    ap lines_of_parts (one_part text past) ∙ rw longer refl

-- a character of a line is no line feed and no carriage return
no_feed : (c : ℕ) → is_text_byte c ≡ true → is_feed c ≡ false
no_feed c h = grind (arith, nat_tests)

no_return : (c : ℕ) → is_text_byte c ≡ true → eqb c 13 ≡ false
no_return c h = grind (arith, nat_tests)

-- a line has no line feed
pub no_feeds : (line : List ℕ) → is_text line ≡ true → All (λ c. is_feed c ≡ false) line
no_feeds line text = All-weaker (λ c. is_text_byte c ≡ true) (λ c. is_feed c ≡ false) no_feed line (AllPass-from_list_all is_text_byte line text)

-- a text of a line's characters is one line
pub lines-one_line : (line : List ℕ) → 0 < length line → is_text line ≡ true → lines line ≡ line ∷ []
lines-one_line line some text =
    let longer : eqb (length line) 0 ≡ false = ne_eqb _ _ (λ e. omega arith) in
    ap lines_of_parts (slice_split_none is_feed line (no_feeds line text)) ∙ rw longer refl

-- a line keeps its last character, which is no carriage return
pub strip_none : (line : List ℕ) → 0 < length line → is_text line ≡ true → strip_carriage_return line ≡ line
strip_none line some text =
    let last : is_text_byte (slice_index line (length line - 1)) ≡ true = AllPass-from_list_all is_text_byte line text (length line - 1) 0 (omega arith) in
    let other : eqb (slice_index line (length line - 1)) 13 ≡ false = no_return (slice_index line (length line - 1)) last in
    rw other refl

-- so is a text with one line feed, at its end
pub lines-ended_line : (line : List ℕ) → 0 < length line → is_text line ≡ true → lines (line ++ 10 ∷ []) ≡ line ∷ []
lines-ended_line line some text =
    ap lines_of_parts (slice_split_at is_feed line 10 [] (no_feeds line text) refl)
    ∙ ap (λ (first : List ℕ). first ∷ []) (strip_none line some text)
