-- Which numbers the values of the types are.
use Rattle.std.specs.Prelude.{ℕ, ◌^◌, ◌<◌, List, All}

-- bytes (Rust, u8)
abbrev pub AreBytes : List ℕ → Type 0
AreBytes bytes = All (λ b. b < 2 ^ 8) bytes

-- units of a name (UEFI 2.10, 2.3.1, CHAR16)
abbrev pub AreUnits : List ℕ → Type 0
AreUnits units = All (λ u. u < 2 ^ 16) units
