-- Bytes that are written among others.
use Rattle.std.specs.Prelude.{◌≡◌, ℕ, ◌+◌, List, ◌++◌, length, take, drop}

-- bytes after others were written over them at an offset (this project's own)
unfoldable pub placed : ℕ → List ℕ → List ℕ → List ℕ
placed at bytes old = take at old ++ (bytes ++ drop (at + length bytes) old)

-- bytes that are as others are, outside of a range (this project's own)
pub record IsOutsideKept (from to : ℕ) (old new : List ℕ) : Type 0 where
  pub len : length new ≡ length old
  pub before : take from new ≡ take from old
  pub behind : drop to new ≡ drop to old
