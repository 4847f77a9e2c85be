-- What single steps of a flash leave outside of their range.
use Rattle.std.proofs.Common.{◌≡◌, ℕ, suc, ◌+◌, ◌*◌, ◌≤◌, List, [], ◌∷◌, ◌++◌, length, take, drop, replicate, nat_lt, true, Option, Some, IfSome, sym, ap, ap₂, ◌∙◌, subst, take-append-drop, length-append}
use Rattle.std.specs.List.{list_all}
use Rattle.std.proofs.lemmas.List.{append_assoc, drop-drop, drop_at, replicate-append-replicate, take_at}
use Rattle.flash_dev.specs.Moments.{Stays}
use Rattle.flash_dev.specs.Rules.{AreBytesLeft, IsEraseLeft, IsProgramLeft, cleared, programmed}
use Rattle.flash_dev.proofs.Fresh.{fresh_front}
use Rattle.flash_dev.proofs.Moments.{stays_more, stays_weaken}
use Rattle.var_types.specs.Placed.{IsOutsideKept}
use Rattle.var_types.proofs.Parts.{outside_both, outside_wider}

-- an interrupted programming leaves as many bytes
left_length : (olds news lefts : List ℕ) → AreBytesLeft olds news lefts → length lefts ≡ length olds
left_length olds [] lefts is = ap length is
left_length [] (new ∷ news) lefts is = ap length is
left_length (old ∷ olds) (new ∷ news) [] is = absurd is
left_length (old ∷ olds) (new ∷ news) (left ∷ lefts) is = ap suc (left_length olds news lefts is.1)

-- and the bytes behind its range
left_behind : (olds news lefts : List ℕ) → AreBytesLeft olds news lefts → drop (length news) lefts ≡ drop (length news) olds
left_behind olds [] lefts is = is
left_behind [] (new ∷ news) lefts is = ap (drop (length (new ∷ news))) is
left_behind (old ∷ olds) (new ∷ news) [] is = absurd is
left_behind (old ∷ olds) (new ∷ news) (left ∷ lefts) is = left_behind olds news lefts is.1

-- a programming changes its range alone
pub program_outside : (at : ℕ) (bytes image left : List ℕ) → IsProgramLeft at bytes image left → IsOutsideKept at (at + length bytes) image left
program_outside at bytes image left is = record {
  len =
      ap length (sym (take-append-drop at left)) ∙ length-append (take at left) (drop at left)
      ∙ ap₂ (λ a b. a + b) (ap length is.before) (left_length (drop at image) bytes (drop at left) is.range)
      ∙ sym (length-append (take at image) (drop at image))
      ∙ ap length (take-append-drop at image);
  before = is.before;
  behind = sym (drop-drop (length bytes) at left) ∙ left_behind (drop at image) bytes (drop at left) is.range ∙ drop-drop (length bytes) at image;
}

-- an erasing changes its block alone
pub erase_outside : (block : ℕ) (image left : List ℕ) → IsEraseLeft block image left → IsOutsideKept (4096 * block) (4096 * block + 4096) image left
erase_outside block image left is = record { len = is.len; before = is.before; behind = is.behind }

-- what is told is as long as an image
pub image_sized : (told : Option (List ℕ)) (n : ℕ) → n ≡ 131072 → IfSome told (λ image. length image ≡ n) → IfSome told (λ image. length image ≡ 131072)
image_sized told n e law = subst (λ m. IfSome told (λ image. length image ≡ m)) e law

-- bytes that are programmed behind a front
pub programmed_at : (at : ℕ) (front rest bytes : List ℕ) → length front ≡ at → programmed at bytes (front ++ rest) ≡ front ++ cleared rest bytes
programmed_at at front rest bytes size =
    ap (λ list. list ++ cleared (drop at (front ++ rest)) bytes) (take_at front rest at size)
    ∙ ap (λ list. front ++ cleared list bytes) (drop_at front rest at size)

-- bytes stand in erased ones as they are programmed
pub erased_takes : (n m : ℕ) (bytes back : List ℕ) → list_all (λ b. nat_lt b 256) bytes ≡ true → length bytes + m ≡ n
    → cleared (replicate n 255 ++ back) bytes ≡ bytes ++ (replicate m 255 ++ back)
erased_takes n m bytes back all size =
    ap (λ k. cleared (replicate k 255 ++ back) bytes) (sym size)
    ∙ ap (λ list. cleared (list ++ back) bytes) (sym (replicate-append-replicate (length bytes) m 255))
    ∙ ap (λ list. cleared list bytes) (append_assoc (replicate (length bytes) 255) (replicate m 255) back)
    ∙ fresh_front bytes (replicate m 255 ++ back) all

module _ {F : Type 0} {moment : F → ℕ} {left_since : F → ℕ → List ℕ → Type 0} {holds : F → Option (List ℕ)} where
  -- the moments of a programming within a range
  pub program_moments : (from to at : ℕ) (bytes : List ℕ) (old new : F) → from ≤ at → at + length bytes ≤ to
      → Stays (IsProgramLeft at bytes) moment left_since holds old new → Stays (IsOutsideKept from to) moment left_since holds old new
  program_moments from to at bytes old new early late run =
      stays_weaken (IsProgramLeft at bytes) (IsOutsideKept from to) old new run
      (λ image left told is. outside_wider at (at + length bytes) from to image left early late (program_outside at bytes image left is))

  -- the moments of an erasing within a range
  pub erase_moments : (from to block : ℕ) (old new : F) → from ≤ 4096 * block → 4096 * block + 4096 ≤ to
      → Stays (IsEraseLeft block) moment left_since holds old new → Stays (IsOutsideKept from to) moment left_since holds old new
  erase_moments from to block old new early late run =
      stays_weaken (IsEraseLeft block) (IsOutsideKept from to) old new run
      (λ image left told is. outside_wider (4096 * block) (4096 * block + 4096) from to image left early late (erase_outside block image left is))

  -- the moments of changes of a range, and then of more
  pub outside_moments : (from to : ℕ) (old mid new : F) → Stays (IsOutsideKept from to) moment left_since holds old mid
      → Stays (IsOutsideKept from to) moment left_since holds mid new → Stays (IsOutsideKept from to) moment left_since holds old new
  outside_moments from to old mid new run next =
      stays_more (IsOutsideKept from to) (IsOutsideKept from to) old mid new run next
      (λ image cells left told now first second. outside_both from to image cells left first second)
