-- A line behind which a schedule begins may stand in a text.
use Rattle.std.proofs.Common.{◌≡◌, ℕ, true, false, eqb, List, [], ◌∷◌, length, refl, sym, ap, ◌∙◌, inl, inr, codes, arith}
use Rattle.std.proofs.lemmas.Bool.{and_from, and_parts, cases_Bool, ne_eqb}
use Rattle.std.proofs.lemmas.Bool.Decides.{nat_tests}
use Rattle.std.specs.List.{list_all, onto_first, slice_split}
use Rattle.std.specs.Prelude.{filter, not}
use Rattle.var_types.proofs.WorkAreas.{found_equal}
use Rattle.script_text.specs.Lines.{is_blank, is_text, is_text_byte, words_of}
use Rattle.script_text.specs.Schedule.{begins_schedule, is_schedule_word}

-- a blank may stand in a line
blank_text : (c : ℕ) → is_blank c ≡ true → is_text_byte c ≡ true
blank_text c blank = grind (arith, nat_tests)

-- a character before the first part of a line
onto_text : (c : ℕ) (parts : List (List ℕ)) → list_all is_text (onto_first c parts) ≡ true → (is_text_byte c ≡ true) × (list_all is_text parts ≡ true)
onto_text c [] text = and_parts (is_text_byte c) true (and_parts (is_text (c ∷ [])) true text).0
onto_text c (part ∷ parts) text =
    let both = and_parts (is_text (c ∷ part)) (list_all is_text parts) text in
    let first = and_parts (is_text_byte c) (is_text part) both.0 in
    (first.0, and_from _ _ first.1 both.1)

-- a line is of text where its parts are
parts_text : (line : List ℕ) → list_all is_text (slice_split is_blank line) ≡ true → is_text line ≡ true
parts_text [] text = refl
parts_text (c ∷ line) text =
    elim (cases_Bool (is_blank c)) [
      | inl blank ↦ and_from _ _ (blank_text c blank) (parts_text line (rw blank at text))
      | inr other ↦
          let both = onto_text c (slice_split is_blank line) (rw other at text) in
          and_from _ _ both.0 (parts_text line both.1)
    ]

-- parts are of text where those that aren't empty are
filter_text : (parts : List (List ℕ)) → list_all is_text (filter (λ word. not (eqb (length word) 0)) parts) ≡ true → list_all is_text parts ≡ true
filter_text [] text = refl
filter_text ([] ∷ parts) text = filter_text parts text
filter_text ((c ∷ part) ∷ parts) text =
    let some : eqb (length (c ∷ part)) 0 ≡ false = ne_eqb _ _ (λ e. omega arith) in
    let both = and_parts (is_text (c ∷ part)) _ (rw some at text) in
    and_from _ _ both.0 (filter_text parts both.1)

-- a line is of text where its words are
words_text : (line : List ℕ) → list_all is_text (words_of line) ≡ true → is_text line ≡ true
unfolding words_of
words_text line text = parts_text line (filter_text (slice_split is_blank line) text)

-- the one word `schedule` is
schedule_text : (words : List (List ℕ)) → is_schedule_word words ≡ true → list_all is_text words ≡ true
schedule_text [] is = cc
schedule_text (word ∷ []) is = ap (λ (w : List ℕ). list_all is_text (w ∷ [])) (found_equal word (codes "schedule") is)
schedule_text (a ∷ b ∷ rest) is = cc

-- a line that may not stand in a text begins no schedule
pub other_begins_none : (line : List ℕ) → is_text line ≡ false → begins_schedule line ≡ false
unfolding begins_schedule
other_begins_none line other =
    elim (cases_Bool (is_schedule_word (words_of line))) [
      | inl is ↦ let text : is_text line ≡ true = words_text line (schedule_text (words_of line) is) in let both : true ≡ false = sym text ∙ other in cc
      | inr none ↦ none
    ]
