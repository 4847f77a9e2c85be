-- A spare that is read block by block.
use Rattle.std.proofs.Common.{◌≡◌, ℕ, ◌+◌, ◌-◌, ◌*◌, ◌≤◌, ◌&&◌, Bool, true, false, List, [], ◌++◌, length, take, drop, Option, Some, None, IfSome, refl, sym, ap, ◌∙◌, subst, arith, take-add, length-drop}
use Rattle.std.specs.List.{list_all}
use Rattle.std.proofs.lemmas.Bool.{and_left}
use Rattle.std.proofs.lemmas.List.{drop-drop, take-append-drop, take_all}
use Rattle.std.proofs.lemmas.List.Folds.{list_all-append}
use Rattle.flash_dev.specs.Moments.{Stays}
use Rattle.flash_dev.specs.Rules.{IsKept}
use Rattle.flash_dev.proofs.Moments.{stays_more}
use Rattle.ftw_work.proofs.Told.{told_more, told_same}
use Rattle.var_types.specs.Kept.{spare}
use Rattle.var_types.specs.WorkArea.{is_blank}

-- the front of the spare before a block is blank
abbrev pub IsBlankTo : ℕ → List ℕ → Type 0
IsBlankTo block image = is_blank (take (4096 * block - 65536) (drop 65536 image)) ≡ true

-- before the first block there is nothing
pub begins_blank : (told : Option (List ℕ)) → IfSome told (IsBlankTo 16)
begins_blank None = tt
begins_blank (Some image) = refl

-- the front up to the end of a block
front_more : (block : ℕ) (image : List ℕ) → 16 ≤ block → take (4096 * (block + 1) - 65536) (drop 65536 image)
    ≡ take (4096 * block - 65536) (drop 65536 image) ++ take 4096 (drop (4096 * block) image)
front_more block image early =
    let next : 4096 * (block + 1) - 65536 ≡ (4096 * block - 65536) + 4096 = omega arith in
    let at : 65536 + (4096 * block - 65536) ≡ 4096 * block = omega arith in
    ap (λ n. take n (drop 65536 image)) next
    ∙ take-add (4096 * block - 65536) 4096 (drop 65536 image)
    ∙ ap (λ list. take (4096 * block - 65536) (drop 65536 image) ++ take 4096 list)
    (drop-drop (4096 * block - 65536) 65536 image ∙ ap (λ n. drop n image) at)

-- is blank where the block is
front_is : (block : ℕ) (image : List ℕ) → 16 ≤ block → IsBlankTo block image
    → is_blank (take (4096 * (block + 1) - 65536) (drop 65536 image)) ≡ is_blank (take 4096 (drop (4096 * block) image))
front_is block image early before =
    ap is_blank (front_more block image early)
    ∙ list_all-append _ (take (4096 * block - 65536) (drop 65536 image)) (take 4096 (drop (4096 * block) image))
    ∙ ap (λ b. b && is_blank (take 4096 (drop (4096 * block) image))) before

-- one block more is blank
pub goes_on_blank : (block : ℕ) (told : Option (List ℕ)) → 16 ≤ block → IfSome told (IsBlankTo block)
    → IfSome told (λ image. true ≡ is_blank (take 4096 (drop (4096 * block) image))) → IfSome told (IsBlankTo (block + 1))
goes_on_blank block None early before is = tt
goes_on_blank block (Some image) early before is = front_is block image early before ∙ sym is

-- a block isn't blank, nor then the spare
pub ends_used : (block : ℕ) (told : Option (List ℕ)) → 16 ≤ block → IfSome told (IsBlankTo block)
    → IfSome told (λ image. false ≡ is_blank (take 4096 (drop (4096 * block) image))) → IfSome told (λ image. false ≡ is_blank (spare image))
unfolding spare
ends_used block None early before is = tt
ends_used block (Some image) early before is =
    let n = 4096 * (block + 1) - 65536 in
    sym (
    ap is_blank (sym (take-append-drop n (drop 65536 image)))
    ∙ list_all-append _ (take n (drop 65536 image)) (drop n (drop 65536 image))
    ∙ and_left _ _ (front_is block image early before ∙ sym is)
    )

-- all blocks are blank, and so the spare is
pub ends_blank : (block : ℕ) (told : Option (List ℕ)) → block ≡ 32 → IfSome told (λ image. length image ≡ 131072) → IfSome told (IsBlankTo block)
    → IfSome told (λ image. true ≡ is_blank (spare image))
unfolding spare
ends_blank block None end size before = tt
ends_blank block (Some image) end size before =
    let n : 4096 * block - 65536 ≡ 65536 = omega arith in
    let short : length (drop 65536 image) ≤ 65536 = omega (arith, size, length-drop 65536 image) in
    sym (ap is_blank (sym (take_all 65536 (drop 65536 image) short) ∙ ap (λ k. take k (drop 65536 image)) (sym n)) ∙ before)

module _ {F : Type 0} {moment : F → ℕ} {left_since : F → ℕ → List ℕ → Type 0} {holds : F → Option (List ℕ)} where
  -- the moments of reads, and then of more
  pub kept_moments : (old mid new : F) → Stays IsKept moment left_since holds old mid → Stays IsKept moment left_since holds mid new
      → Stays IsKept moment left_since holds old new
  kept_moments old mid new run next = stays_more IsKept IsKept old mid new run next (λ image cells left told now first second. second ∙ first)

-- a block that was read
pub block_read : (block at n : ℕ) (buffer : List ℕ) (b : Bool) (told : Option (List ℕ)) → at ≡ 4096 * block → n ≡ 4096
    → IfSome told (λ image. buffer ≡ take n (drop at image)) → b ≡ is_blank buffer
    → IfSome told (λ image. b ≡ is_blank (take 4096 (drop (4096 * block) image)))
block_read block at n buffer b told place size read is =
    told_more (λ image. buffer ≡ take n (drop at image)) (λ image. b ≡ is_blank (take 4096 (drop (4096 * block) image))) told read
    (λ image e. is ∙ ap is_blank (e ∙ ap (λ k. take k (drop at image)) size ∙ ap (λ k. take 4096 (drop k image)) place))

-- what was found of a block, by what was told at first
pub block_told : (block : ℕ) (b is : Bool) (told now : Option (List ℕ)) → b ≡ is → now ≡ told
    → IfSome now (λ image. b ≡ is_blank (take 4096 (drop (4096 * block) image)))
    → IfSome told (λ image. is ≡ is_blank (take 4096 (drop (4096 * block) image)))
block_told block b is told now found same blank =
    subst (λ (t : Bool). IfSome told (λ image. t ≡ is_blank (take 4096 (drop (4096 * block) image)))) found
    (told_same (λ image. b ≡ is_blank (take 4096 (drop (4096 * block) image))) told now same blank)
