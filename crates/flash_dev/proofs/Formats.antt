-- What a formatting leaves, block by block.
use Rattle.std.proofs.Common.{◌≡◌, inl, inr, ℕ, ◌+◌, ◌*◌, ◌<◌, ◌≤◌, List, length, take, drop, replicate, refl, ap, ◌∙◌, arith, lit<, subst, Option, IfSome, length-append, length-drop}
use Rattle.std.proofs.lemmas.List.{length-replicate}
use Rattle.flash_dev.specs.Blank.{blank_headers}
use Rattle.flash_dev.specs.Formatting.{IsFormatLeft}
use Rattle.flash_dev.specs.Moments.{Stays}
use Rattle.flash_dev.specs.Rules.{IsEraseLeft, IsProgramLeft, Leaves}
use Rattle.var_types.specs.Layout.{block_size, image_size}
use Rattle.flash_dev.proofs.Calls.{told_at}
use Rattle.flash_dev.proofs.Erased.{AreErased, blocks_erased, erased_behind, erased_front, front_erased}
use Rattle.flash_dev.proofs.Moments.{stays_then}

-- an image of which nothing is erased yet
pub format_begins : (image : List ℕ) → IsFormatLeft image image
format_begins image = inl (0, record { few = lit< tt; len = refl; erased = refl; behind = refl })

-- an image keeps its length where its front is erased
erased_length : (n : ℕ) (image : List ℕ) → n ≤ length image → length (front_erased n image) ≡ length image
erased_length n image h = length-append (replicate n 0xFF) (drop n image) ∙ omega (arith, length-replicate {A = ℕ} n 0xFF, length-drop n image)

-- the next block is erased, and that fails or is interrupted
pub format_goes_on : (block : ℕ) (image cells left : List ℕ) → length image ≡ image_size → block_size * block < image_size → cells ≡ blocks_erased block image
    → IsEraseLeft block cells left → IsFormatLeft image left
unfolding blocks_erased
format_goes_on block image cells left size few erased is = inl (
  block,
  record {
    few = few;
    len = is.len ∙ ap length erased ∙ erased_length (block_size * block) image (omega arith);
    erased = is.before ∙ ap (take (block_size * block)) erased ∙ erased_front (block_size * block) image;
    behind = is.behind ∙ ap (drop (block_size * block + block_size)) erased ∙ erased_behind (block_size * block) block_size image;
  },
)

-- all blocks are erased, and the headers are programmed
pub format_ends : (headers image cells left : List ℕ) → headers ≡ blank_headers → cells ≡ replicate image_size 0xFF → IsProgramLeft 0 headers cells left
    → IsFormatLeft image left
format_ends headers image cells left same erased is =
    inr (subst (λ bytes. IsProgramLeft 0 bytes (replicate image_size 0xFF) left) same (subst (λ old. IsProgramLeft 0 headers old left) erased is))

module _ {F : Type 0} {moment : F → ℕ} {left_since : F → ℕ → List ℕ → Type 0} {holds : F → Option (List ℕ)} (old mid new : F) where
  -- the moments of a formatting, by one block more
  pub block_moments : (block : ℕ) → IfSome (holds old) (λ image. length image ≡ image_size) → block_size * block < image_size
      → Stays IsFormatLeft moment left_since holds old mid → AreErased block (holds old) (holds mid)
      → Stays (IsEraseLeft block) moment left_since holds mid new → Stays IsFormatLeft moment left_since holds old new
  block_moments block size few run end next =
      stays_then IsFormatLeft (λ image left. left ≡ blocks_erased block image) (IsEraseLeft block) IsFormatLeft old mid new run end next
      (λ image left told is. is)
      (λ image cells left told now erased is. format_goes_on block image cells left (told_at (λ list. length list ≡ image_size) (holds old) image size told) few erased is)

  -- the moments of a formatting, by the programming of its headers
  pub headers_moments : (headers : List ℕ) → headers ≡ blank_headers → Stays IsFormatLeft moment left_since holds old mid
      → Leaves (λ _ left. left ≡ replicate image_size 0xFF) (holds old) (holds mid) → Stays (IsProgramLeft 0 headers) moment left_since holds mid new
      → Stays IsFormatLeft moment left_since holds old new
  headers_moments headers same run end next =
      stays_then IsFormatLeft (λ _ left. left ≡ replicate image_size 0xFF) (IsProgramLeft 0 headers) IsFormatLeft old mid new run end next
      (λ image left told is. is) (λ image cells left told now erased is. format_ends headers image cells left same erased is)
