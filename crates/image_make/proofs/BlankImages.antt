-- A blank image keeps no variable: its volume is its headers, and erased behind them.
use Rattle.std.proofs.Common.{◌≡◌, ℕ, ◌+◌, ◌-◌, ◌≤◌, List, [], ◌++◌, length, take, drop, true, replicate, sym, ap, ◌∙◌, subst, arith, lit≤, length-append}
use Rattle.std.proofs.lemmas.List.{drop-drop, drop-replicate, drop_at, length-replicate, take-replicate}
use Rattle.std.proofs.Math.Seq.{drop-append_seam, take-append-add}
use Rattle.flash_dev.proofs.Blanks.{length-blank_headers}
use Rattle.flash_dev.specs.Blank.{blank_headers, blank_image}
use Rattle.var_region.proofs.Erased.{IsEmptyRegion-erased}
use Rattle.var_region.specs.Laws.{AreErasedFrom, IsEmptyRegion}
use Rattle.var_types.specs.Kept.{content, content_region, kept, spare, volume}
use Rattle.var_types.specs.WorkArea.{is_blank}
use Rattle.var_types.proofs.Parts.{blank_content}
use Rattle.var_types.proofs.WorkAreas.{replicate_blank}

-- the front of bytes with erased ones behind them
front_of : (bytes : List ℕ) (n m : ℕ) → n ≤ m → take (length bytes + n) (bytes ++ replicate m 255) ≡ bytes ++ replicate n 255
front_of bytes n m few = take-append-add bytes (replicate m 255) n ∙ ap (λ rest. bytes ++ rest) (take-replicate n m 255 few)

-- is erased behind those bytes
erased_behind : (bytes : List ℕ) (n : ℕ) → AreErasedFrom (length bytes) (bytes ++ replicate n 255)
erased_behind bytes n =
    let size : length (bytes ++ replicate n 255) - length bytes ≡ n =
    omega (arith, length-append bytes (replicate n 255), length-replicate {A = ℕ} n 255) in
    drop-append_seam bytes (replicate n 255) ∙ ap (λ k. replicate k 255) (sym size)

-- what stands behind a front is erased
behind_blank : (front : List ℕ) (n m k : ℕ) → length front ≡ n → is_blank (drop (n + k) (front ++ replicate m 255)) ≡ true
behind_blank front n m k size =
    ap is_blank
    (sym (drop-drop k n (front ++ replicate m 255)) ∙ ap (drop k) (drop_at front (replicate m 255) n size) ∙ drop-replicate k m 255)
    ∙ replicate_blank (m - k)

-- the spare of the blank image is blank
pub spare_is : is_blank (spare blank_image) ≡ true
unfolding spare blank_image
spare_is = behind_blank blank_headers 100 130972 65436 length-blank_headers

-- the volume of the blank image is what it keeps
volume_is : volume blank_image ≡ blank_headers ++ replicate 57244 255
unfolding volume blank_image
volume_is =
    ap (λ k. take k (blank_headers ++ replicate 130972 255)) (sym (ap (λ n. n + 57244) length-blank_headers))
    ∙ front_of blank_headers 57244 130972 (lit≤ tt)

content_is : content blank_image ≡ blank_headers ++ replicate 57244 255
content_is = blank_content blank_image spare_is ∙ volume_is

-- its region has no records
pub region_is_empty : IsEmptyRegion (content_region blank_image)
region_is_empty =
    let behind = subst (λ at. AreErasedFrom at (blank_headers ++ replicate 57244 255)) length-blank_headers (erased_behind blank_headers 57244) in
    IsEmptyRegion-erased (content_region blank_image) (subst (AreErasedFrom 100) (sym content_is) behind)

-- the blank image keeps no variable
pub kept-blank_image : kept blank_image ≡ []
unfolding kept
kept-blank_image = region_is_empty.no_variables
