-- Ranges of a store's bytes, and bytes that become others in these ranges alone.
use Rattle.std.specs.Prelude.{◌≡◌, ◌⊎◌, ℕ, ◌-◌, ◌≤◌, ◌<◌, List, [], ◌∷◌, length, take, drop}
use Rattle.var_types.specs.declared.span.Span.{Span}
use Rattle.var_types.specs.Placed.{placed}

-- the bytes of a range (this project's own)
abbrev pub cut : Span → List ℕ → List ℕ
cut span bytes = take (span.to - span.from) (drop span.from bytes)

-- bytes that take those of others in some ranges, one range after the other (this project's own)
abbrev pub pasted : List Span → List ℕ → List ℕ → List ℕ
pasted [] new old = old
pasted (span ∷ spans) new old = pasted spans new (placed span.from (cut span new) old)

-- each of some ranges ends where it begins or behind that, and within so many bytes (this project's own)
abbrev pub AreWithin : List Span → ℕ → Type 0
AreWithin [] size = Unit {0}
AreWithin (span ∷ spans) size = (span.from ≤ span.to) × ((span.to ≤ size) × AreWithin spans size)

-- an offset is in one of some ranges (this project's own)
abbrev pub IsInside : ℕ → List Span → Type 0
IsInside at [] = ⊥
IsInside at (span ∷ spans) = ((span.from ≤ at) × (at < span.to)) ⊎ IsInside at spans

-- bytes became others in some ranges alone: they are as many, and are those of before with the new ones in these ranges (this project's own)
pub record IsWritten (spans : List Span) (old new : List ℕ) : Type 0 where
  pub len : length new ≡ length old
  pub pasted : pasted spans new old ≡ new
