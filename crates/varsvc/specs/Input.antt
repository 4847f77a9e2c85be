use Rattle.std.specs.Prelude.{◌≡◌, ℕ, ◌≤◌, List, Option, length, take, IfSome}
use Rattle.std.specs.Io.KnownBytes.{Consumes}

-- how much is read of a source at most: one byte more than a script may have, so that a longer one is refused by its length alone (this
-- project's own)
abbrev pub most_read : ℕ
most_read = 1048577

-- what is read of an input, where it is told: all of it, or as much as is read at most
unfoldable pub IsInput : Option (List ℕ) → List ℕ → Type 0
IsInput left text = IfSome left (λ bytes. text ≡ take most_read bytes)

-- so many bytes at most were taken of a source
abbrev pub TakesAtMost : ℕ → Option (List ℕ) → Option (List ℕ) → Type 0
TakesAtMost most old new = (bytes : List ℕ) × (length bytes ≤ most) × Consumes old new bytes
