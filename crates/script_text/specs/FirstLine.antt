-- The first line of a text.
use Rattle.std.specs.Prelude.{◌≡◌, ℕ, ◌<◌, Bool, true, false, not, List, ◌∷◌, length}
use Rattle.std.specs.Str.Lines.{lines}
use Rattle.script_text.specs.Lines.{is_comment, is_text, is_text_byte}

-- the first line of a text, which is a comment or has only bytes that may stand in a line, and the text behind it (this project's own)
pub record IsFirstLine (text line rest : List ℕ) : Type 0 where
  pub lines : lines text ≡ line ∷ lines rest
  pub read : is_comment line ≡ false → is_text line ≡ true
  pub shorter : length rest < length text

-- the first line of a text is no comment, and has a byte that may not stand in a line (this project's own)
abbrev pub HasBadLine : List ℕ → Type 0
HasBadLine text = (line : List ℕ) × (later : List (List ℕ)) × (lines text ≡ line ∷ later) × (is_comment line ≡ false) × (is_text line ≡ false)

-- whether a byte may not stand in a line
abbrev pub is_other : ℕ → Bool
is_other c = not (is_text_byte c)
