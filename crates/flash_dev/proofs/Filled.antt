-- Blocks that are filled with one byte.
use Rattle.std.proofs.Common.{◌≡◌, ℕ, ◌+◌, ◌*◌, ◌-◌, ◌≤◌, List, ◌++◌, length, take, drop, replicate, refl, sym, ap, ◌∙◌, arith, length-append, length-drop}
use Rattle.std.proofs.lemmas.List.{append_assoc, drop-drop, drop_at, length-replicate, length-take-le, take_at}
use Rattle.flash_dev.specs.Rules.{IsEraseLeft, block_filled, filled}
use Rattle.var_types.specs.Layout.{block_size}
use borrow.Rule.Slice.PartMut.{put_mid}

-- a part that was filled
part_filled : (at end count byte : ℕ) (olds part : List ℕ) → at + count ≡ end → end ≤ length olds
    → part ≡ replicate (length (take (end - at) (drop at olds))) byte → put_mid at (end - at) olds part ≡ filled at count byte olds
part_filled at end count byte olds part e h is =
    let size : end - at ≡ count = omega arith in
    let room : end - at ≤ length (drop at olds) = omega (arith, length-drop at olds) in
    let behind : drop (end - at) (drop at olds) ≡ drop (at + count) olds = drop-drop (end - at) at olds ∙ ap (λ n. drop (at + n) olds) size in
    ap (λ rest. take at olds ++ (part ++ rest)) behind
    ∙ ap (λ middle. take at olds ++ (middle ++ drop (at + count) olds)) (is ∙ ap (λ n. replicate n byte) (length-take-le (end - at) (drop at olds) room ∙ size))
    ∙ sym (append_assoc (take at olds) (replicate count byte) (drop (at + count) olds))

-- a block that was filled
pub block_is_filled : (at block byte : ℕ) (olds part : List ℕ) → at ≡ block_size * block → at + block_size ≤ length olds
    → part ≡ replicate (length (take (at + block_size - at) (drop at olds))) byte
    → put_mid at (at + block_size - at) olds part ≡ block_filled block byte olds
unfolding block_filled
block_is_filled at block byte olds part e h is =
    part_filled at (at + block_size) block_size byte olds part refl h is ∙ ap (λ n. filled n block_size byte olds) e

-- a part of an image that is filled leaves the rest
module _ (at count byte : ℕ) (image : List ℕ) (h : at + count ≤ length image) where
  -- the front has its length
  front : length (take at image) ≡ at
  front = length-take-le at image (omega arith)

  -- the front and the part have their length together
  both : length (take at image ++ replicate count byte) ≡ at + count
  both = length-append (take at image) (replicate count byte) ∙ omega (arith, front, length-replicate count byte)

  -- the image keeps its length
  filled-length : length (filled at count byte image) ≡ length image
  filled-length =
      omega (arith, both, length-append (take at image ++ replicate count byte) (drop (at + count) image), length-drop (at + count) image)

  -- what stands before the part stays
  filled-before : take at (filled at count byte image) ≡ take at image
  filled-before =
      ap (take at) (append_assoc (take at image) (replicate count byte) (drop (at + count) image))
      ∙ take_at (take at image) (replicate count byte ++ drop (at + count) image) at front

  -- what stands behind the part stays
  filled-behind : drop (at + count) (filled at count byte image) ≡ drop (at + count) image
  filled-behind = drop_at (take at image ++ replicate count byte) (drop (at + count) image) (at + count) both

-- a block that is filled is what an erase may leave
pub block_left : (block byte : ℕ) (image : List ℕ) → block_size * block + block_size ≤ length image → IsEraseLeft block image (block_filled block byte image)
unfolding block_filled
block_left block byte image h = record {
  len = filled-length (block_size * block) block_size byte image h;
  before = filled-before (block_size * block) block_size byte image h;
  behind = filled-behind (block_size * block) block_size byte image h;
}
