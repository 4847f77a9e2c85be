use Rattle.std.specs.Prelude.{ℕ, ◌==◌, ◌&&◌, ◌||◌, not, Bool, false, List, [], ◌∷◌, length, nat_le, filter}
use Rattle.std.specs.List.{slice_split, list_all}

-- whether a character parts words: a space or a tab
abbrev pub is_blank : ℕ → Bool
is_blank c = (c == 32) || (c == 9)

-- the words of a line, parted by blanks
unfoldable pub words_of : List ℕ → List (List ℕ)
words_of line = filter (λ word. not (length word == 0)) (slice_split is_blank line)

-- whether a byte may stand in a line: a tab, or a printable ASCII character
abbrev pub is_text_byte : ℕ → Bool
is_text_byte c = (c == 9) || (nat_le 32 c && nat_le c 126)

-- whether all bytes of a line may stand there
abbrev pub is_text : List ℕ → Bool
is_text line = list_all is_text_byte line

-- whether a line is a comment: its first character is `#`
abbrev pub is_comment : List ℕ → Bool
is_comment [] = false
is_comment (c ∷ cs) = c == 35
