-- An image that is erased block by block.
use Rattle.std.proofs.Common.{◌≡◌, ℕ, ◌+◌, ◌*◌, List, ◌++◌, length, take, drop, replicate, refl, sym, ap, ◌∙◌, arith, Option, Some, None, IfSome}
use Rattle.std.proofs.lemmas.List.{append-nil, drop-drop, drop_all, drop_at, length-replicate, replicate-append-replicate, take_at}
use Rattle.flash_dev.specs.Rules.{Leaves, block_filled, filled}
use Rattle.var_types.specs.Layout.{block_size}
use Rattle.flash_dev.proofs.Calls.{leaves_then}

-- an image of which so many bytes at the front are erased
abbrev pub front_erased : ℕ → List ℕ → List ℕ
front_erased n image = replicate n 0xFF ++ drop n image

-- an image of which so many blocks at the front are erased
unfoldable pub blocks_erased : ℕ → List ℕ → List ℕ
blocks_erased block image = front_erased (block_size * block) image

-- the front is erased, and what stands behind it stays
pub erased_front : (n : ℕ) (image : List ℕ) → take n (front_erased n image) ≡ replicate n 0xFF
erased_front n image = take_at (replicate n 0xFF) (drop n image) n (length-replicate {A = ℕ} n 0xFF)

pub erased_behind : (n count : ℕ) (image : List ℕ) → drop (n + count) (front_erased n image) ≡ drop (n + count) image
erased_behind n count image =
    sym (drop-drop count n (front_erased n image))
    ∙ ap (drop count) (drop_at (replicate n 0xFF) (drop n image) n (length-replicate {A = ℕ} n 0xFF))
    ∙ drop-drop count n image

-- more bytes are erased
more_erased : (n count : ℕ) (image : List ℕ) → filled n count 0xFF (front_erased n image) ≡ front_erased (n + count) image
more_erased n count image =
    ap (λ list. list ++ replicate count 0xFF ++ drop (n + count) (front_erased n image)) (erased_front n image)
    ∙ ap (λ list. list ++ drop (n + count) (front_erased n image)) (replicate-append-replicate n count 0xFF)
    ∙ ap (λ list. replicate (n + count) 0xFF ++ list) (erased_behind n count image)

-- the offset behind a block is that of the next
next_offset : (block : ℕ) → block_size * block + block_size ≡ block_size * (block + 1)
next_offset block = omega arith

-- a block more is erased
block_more : (block : ℕ) (image : List ℕ) → block_filled block 0xFF (blocks_erased block image) ≡ blocks_erased (block + 1) image
unfolding block_filled blocks_erased
block_more block image = more_erased (block_size * block) block_size image ∙ ap (λ n. front_erased n image) (next_offset block)

-- an image of which no block is erased is as it was
pub none_erased : (image : List ℕ) → image ≡ blocks_erased 0 image
unfolding blocks_erased
none_erased image = refl

-- an image of which all blocks are erased is 0xFF alone
all_erased : (block n : ℕ) (image : List ℕ) → block_size * block ≡ n → length image ≡ n → blocks_erased block image ≡ replicate n 0xFF
unfolding blocks_erased
all_erased block n image e size =
    ap (λ m. front_erased m image) e ∙ ap (λ rest. replicate n 0xFF ++ rest) (drop_all n image (omega arith)) ∙ append-nil (replicate n 0xFF)

-- what is told of an image whose blocks are erased
abbrev pub AreErased : ℕ → Option (List ℕ) → Option (List ℕ) → Type 0
AreErased block = Leaves (λ image left. left ≡ blocks_erased block image)

-- what is told before the first block is erased
pub no_blocks : (told : Option (List ℕ)) → AreErased 0 told told
no_blocks None = refl
no_blocks (Some image) = none_erased image

-- what is told after one block more is erased
pub one_block : (block : ℕ) (old now next : Option (List ℕ)) → AreErased block old now
    → Leaves (λ image left. left ≡ block_filled block 0xFF image) now next → AreErased (block + 1) old next
one_block block old now next was is =
    leaves_then (λ image left. left ≡ blocks_erased block image) (λ image left. left ≡ block_filled block 0xFF image)
    (λ image left. left ≡ blocks_erased (block + 1) image) old now next was is
    (λ image cells left told now e f. f ∙ ap (block_filled block 0xFF) e ∙ block_more block image)

-- what is told after the last block is erased
pub last_block : (block n : ℕ) (old now : Option (List ℕ)) → block_size * block ≡ n → IfSome old (λ image. length image ≡ n) → AreErased block old now
    → Leaves (λ _ left. left ≡ replicate n 0xFF) old now
last_block block n None now e size was = was
last_block block n (Some image) None e size was = was
last_block block n (Some image) (Some left) e size was = was ∙ all_erased block n image e size
