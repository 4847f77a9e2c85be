-- What a formatting that fails or is interrupted leaves.
use Rattle.std.specs.Prelude.{◌≡◌, ◌⊎◌, ◌<◌, ℕ, ◌+◌, ◌*◌, List, length, take, drop, replicate}
use Rattle.flash_dev.specs.Blank.{blank_headers}
use Rattle.flash_dev.specs.Rules.{IsProgramLeft}
use Rattle.var_types.specs.Layout.{block_size, image_size}

-- an image of which so many blocks at the front are erased; the next block may hold anything, and those behind it are as they were (this
-- project's own)
pub record IsErasedTo (blocks : ℕ) (image left : List ℕ) : Type 0 where
  pub few : block_size * blocks < image_size
  pub len : length left ≡ length image
  pub erased : take (block_size * blocks) left ≡ replicate (block_size * blocks) 0xFF
  pub behind : drop (block_size * blocks + block_size) left ≡ drop (block_size * blocks + block_size) image

-- an image that a formatting leaves: its blocks are erased in order, and after the last the headers are programmed (this project's own)
abbrev pub IsFormatLeft : List ℕ → List ℕ → Type 0
IsFormatLeft image left = ((blocks : ℕ) × IsErasedTo blocks image left) ⊎ IsProgramLeft 0 blank_headers (replicate image_size 0xFF) left
