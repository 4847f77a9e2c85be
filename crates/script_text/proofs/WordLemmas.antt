-- Words with a space between each two are cut apart again.
use Rattle.std.proofs.Common.{◌≡◌, ℕ, ◌<◌, Bool, true, false, ◌&&◌, eqb, List, [], ◌∷◌, length, All, refl, ap, ◌∙◌, arith}
use Rattle.std.specs.Prelude.{nat_le, not, filter}
use Rattle.std.specs.List.{AllByRecursion, list_all, slice_split}
use Rattle.std.proofs.lemmas.Bool.{and_from, and_parts, ne_eqb}
use Rattle.std.proofs.lemmas.Bool.Decides.{nat_tests}
use Rattle.std.proofs.lemmas.List.Elements.{All-weaker}
use Rattle.std.proofs.lemmas.List.Folds.{list_all-append}
use Rattle.std.proofs.lemmas.List.Splits.{slice_split_at, slice_split_none}
use Rattle.std.proofs.lemmas.List.Sums.{AllPass-from_list_all}
use Rattle.script_text.specs.Lines.{is_blank, is_text, is_text_byte, words_of}
use Rattle.var_types.specs.Texts.{spaced}

-- whether a character may stand in a word: from `!` to `~`
abbrev pub is_word_byte : ℕ → Bool
is_word_byte c = nat_le 33 c && nat_le c 126

-- a word: some characters, each from `!` to `~`
pub record IsWord (word : List ℕ) : Type 0 where
  pub some : 0 < length word
  pub printed : list_all is_word_byte word ≡ true

-- a character of a word is no blank
no_blank : (c : ℕ) → is_word_byte c ≡ true → is_blank c ≡ false
no_blank c h = grind (arith, nat_tests)

-- a character of a word may stand in a line
in_line : (c : ℕ) → is_word_byte c ≡ true → is_text_byte c ≡ true
in_line c h = grind (arith, nat_tests)

-- a word has no blank
no_blanks : (word : List ℕ) → IsWord word → All (λ c. is_blank c ≡ false) word
no_blanks word is_word =
    All-weaker (λ c. is_word_byte c ≡ true) (λ c. is_blank c ≡ false) no_blank word (AllPass-from_list_all is_word_byte word is_word.printed)

-- a test that follows from another passes wherever that does
pub list_all-weaker : (p q : ℕ → Bool) → ((c : ℕ) → p c ≡ true → q c ≡ true) → (cs : List ℕ) → list_all p cs ≡ true → list_all q cs ≡ true
list_all-weaker p q weaker [] h = refl
list_all-weaker p q weaker (c ∷ cs) h =
    let parts = and_parts (p c) (list_all p cs) h in
    and_from (q c) (list_all q cs) (weaker c parts.0) (list_all-weaker p q weaker cs parts.1)

-- whether a part between blanks is a word
abbrev is_part : List ℕ → Bool
is_part word = not (eqb (length word) 0)

-- a word is kept
filter-word : (word : List ℕ) (words : List (List ℕ)) → IsWord word → filter is_part (word ∷ words) ≡ word ∷ filter is_part words
filter-word word words is_word =
    let some : 0 < length word = is_word.some in
    let longer : eqb (length word) 0 ≡ false = ne_eqb _ _ (λ e. omega arith) in
    rw longer refl

-- the words of spaced words are these
pub words_of-spaced : (words : List (List ℕ)) → AllByRecursion IsWord words → words_of (spaced words) ≡ words
unfolding words_of
words_of-spaced [] are_words = refl
words_of-spaced (word ∷ []) are_words =
    ap (filter is_part) (slice_split_none is_blank word (no_blanks word are_words.0)) ∙ filter-word word [] are_words.0
words_of-spaced (word ∷ next ∷ words) are_words =
    let rest : List ℕ = spaced (next ∷ words) in
    ap (filter is_part) (slice_split_at is_blank word 32 rest (no_blanks word are_words.0) refl)
    ∙ filter-word word (slice_split is_blank rest) are_words.0
    ∙ ap (λ (parts : List (List ℕ)). word ∷ parts) (words_of-spaced (next ∷ words) are_words.1)

-- a word may stand in a line
is_text-word : (word : List ℕ) → IsWord word → is_text word ≡ true
is_text-word word is_word = list_all-weaker is_word_byte is_text_byte in_line word is_word.printed

-- spaced words may stand in a line
pub is_text-spaced : (words : List (List ℕ)) → AllByRecursion IsWord words → is_text (spaced words) ≡ true
is_text-spaced [] are_words = refl
is_text-spaced (word ∷ []) are_words = is_text-word word are_words.0
is_text-spaced (word ∷ next ∷ words) are_words =
    let rest : List ℕ = spaced (next ∷ words) in
    list_all-append is_text_byte word (32 ∷ rest)
    ∙ and_from _ _ (is_text-word word are_words.0) (is_text-spaced (next ∷ words) are_words.1)
