-- What the steps that go to the spare, and from it to the volume, leave.
use Rattle.std.specs.Prelude.{◌≡◌, true, List, ℕ, ◌++◌, replicate}
use Rattle.var_types.specs.Kept.{spare, volume}
use Rattle.var_types.specs.Placed.{IsOutsideKept}
use Rattle.var_types.specs.Layout.{image_size, spare_offset, volume_size}
use Rattle.var_types.specs.WorkArea.{is_blank}

-- an image whose spare is blank, and all of whose other bytes are those of another (this project's own)
pub record IsSpareErased (image left : List ℕ) : Type 0 where
  pub outside : IsOutsideKept spare_offset image_size image left
  pub blank : is_blank (spare left) ≡ true

-- an image whose spare has a volume's bytes at its front, and is erased behind them, where it was blank before; all of its other bytes are those
-- of another (this project's own)
pub record IsSpareFilled (bytes image left : List ℕ) : Type 0 where
  pub outside : IsOutsideKept spare_offset image_size image left
  pub filled : is_blank (spare image) ≡ true → spare left ≡ bytes ++ replicate 8192 0xFF

-- an image whose volume has these bytes, and all of whose other bytes are those of another (this project's own)
pub record IsCopied (bytes image left : List ℕ) : Type 0 where
  pub outside : IsOutsideKept 0 volume_size image left
  pub copied : volume left ≡ bytes
