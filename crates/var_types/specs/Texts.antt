-- The texts of values, as scripts and reports have them.
use Rattle.std.specs.Prelude.{ℕ, ◌==◌, ◌&&◌, not, Bool, List, [], ◌∷◌, ◌++◌, length, codes, flat_map, nat_le, if◌then◌else◌}
use Rattle.std.specs.Int.{to_be_bytes, w16, w32}
use Rattle.std.specs.List.{join_with_byte}
use Rattle.hex.specs.Hex.{encode_lower}
use lib.Pointwise.{pointwise}

-- words with a space between each two (this project's own)
abbrev pub spaced : List (List ℕ) → List ℕ
spaced words = join_with_byte 32 words

-- words with a space before each (this project's own)
abbrev pub later_words : List (List ℕ) → List ℕ
later_words words = flat_map (λ word. 32 ∷ word) words

-- `0x` and eight lower-case digits (this project's own)
unfoldable pub attributes_text : ℕ → List ℕ
attributes_text n = codes "0x" ++ encode_lower (to_be_bytes w32 n)

-- lower-case hexadecimal bytes, or `-` for none (this project's own)
unfoldable pub bytes_text : List ℕ → List ℕ
bytes_text bytes = if length bytes == 0 then codes "-" else encode_lower bytes

-- whether a word is `-` alone, which stands for nothing (this project's own)
abbrev pub is_dash : List ℕ → Bool
is_dash word = pointwise ◌==◌ word (codes "-")

-- the code of `%`
abbrev pub percent : ℕ
percent = 0x25

-- whether a character of a name stands for itself: from `!` to `~`, but `%` (this project's own)
abbrev pub is_plain : ℕ → Bool
is_plain c = nat_le 33 c && nat_le c 126 && not (c == percent)

-- a unit as `%` and four lower-case digits (this project's own)
unfoldable pub escaped_text : ℕ → List ℕ
escaped_text unit = percent ∷ encode_lower (to_be_bytes w16 unit)

-- a unit as itself where it may stand for itself, else escaped (this project's own)
unfoldable pub unit_text : ℕ → List ℕ
unit_text unit = if is_plain unit then unit ∷ [] else escaped_text unit

-- the characters of a name: `-` for none; the unit `-` where it is the whole name is escaped (this project's own)
unfoldable pub name_text : List ℕ → List ℕ
name_text units =
    if length units == 0 then codes "-"
    else if is_dash units then escaped_text 45
    else flat_map unit_text units
