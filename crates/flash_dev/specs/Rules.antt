-- What the calls of a flash do to its image, and what they may leave where they fail or a power loss interrupts them.
use Rattle.std.specs.Prelude.{◌≡◌, ℕ, ◌+◌, ◌*◌, List, [], ◌∷◌, ◌++◌, length, take, drop, replicate, bit_and, Option, Some, None, IfSome, IsSomeAnd}
use Rattle.var_types.specs.Layout.{block_size}

-- bytes after others were programmed into them from the first on: a bit that is clear in these is cleared, and each other bit stays as it is
-- (NOR flash; PI 1.8 volume 3, 2.1)
abbrev pub cleared : List ℕ → List ℕ → List ℕ
cleared olds [] = olds
cleared [] (new ∷ news) = []
cleared (old ∷ olds) (new ∷ news) = bit_and old new ∷ cleared olds news

-- an image after bytes were programmed at an offset
abbrev pub programmed : ℕ → List ℕ → List ℕ → List ℕ
programmed at bytes image = take at image ++ cleared (drop at image) bytes

-- a byte that an interrupted programming leaves: no bit is set that was clear, and each that programming keeps stands
pub record IsByteLeft (old new left : ℕ) : Type 0 where
  pub none_set : bit_and left old ≡ left
  pub rest_kept : bit_and left (bit_and old new) ≡ bit_and old new

-- the bytes that an interrupted programming leaves: each bit of the range is old, or as programmed, and all behind it stays
abbrev pub AreBytesLeft : List ℕ → List ℕ → List ℕ → Type 0
AreBytesLeft olds [] lefts = lefts ≡ olds
AreBytesLeft [] (new ∷ news) lefts = lefts ≡ []
AreBytesLeft (old ∷ olds) (new ∷ news) [] = ⊥
AreBytesLeft (old ∷ olds) (new ∷ news) (left ∷ lefts) = IsByteLeft old new left × AreBytesLeft olds news lefts

-- an image that is left where bytes were programmed at an offset, and the programming failed or was interrupted
pub record IsProgramLeft (at : ℕ) (bytes image left : List ℕ) : Type 0 where
  pub before : take at left ≡ take at image
  pub range : AreBytesLeft (drop at image) bytes (drop at left)

-- an image in which so many bytes from an offset on are replaced by one byte
abbrev pub filled : ℕ → ℕ → ℕ → List ℕ → List ℕ
filled at count byte image = take at image ++ replicate count byte ++ drop (at + count) image

-- an image in which a block is filled with one byte; erased is 0xFF
unfoldable pub block_filled : ℕ → ℕ → List ℕ → List ℕ
block_filled block byte image = filled (block_size * block) block_size byte image

-- an image that is left where a block was erased, and the erasing failed or was interrupted: any bytes in the block, all else as it was
pub record IsEraseLeft (block : ℕ) (image left : List ℕ) : Type 0 where
  pub len : length left ≡ length image
  pub before : take (block_size * block) left ≡ take (block_size * block) image
  pub behind : drop (block_size * block + block_size) left ≡ drop (block_size * block + block_size) image

-- an image that stays as it is
abbrev pub IsKept : List ℕ → List ℕ → Type 0
IsKept image left = left ≡ image

-- what is told after a call stands in this relation to what was told before it; nothing is told where nothing was
abbrev pub Leaves : (List ℕ → List ℕ → Type 0) → Option (List ℕ) → Option (List ℕ) → Type 0
Leaves IsLeft None told = told ≡ None
Leaves IsLeft (Some image) told = IsSomeAnd told (IsLeft image)

-- an image that a power loss within a call may leave; any, where nothing is told
abbrev pub MayLeave : (List ℕ → List ℕ → Type 0) → Option (List ℕ) → List ℕ → Type 0
MayLeave IsLeft told left = IfSome told (λ image. IsLeft image left)
