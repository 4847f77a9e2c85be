-- A work area that is made: its block is erased, its signature programmed, and its gate opened.
use Rattle.std.proofs.Common.{◌≡◌, ℕ, ◌+◌, true, List, [], ◌∷◌, ◌++◌, length, take, drop, replicate, nat_lt, Option, Some, IfSome, refl, sym, ap, ◌∙◌, arith, length-append}
use Rattle.std.specs.List.{list_all}
use Rattle.std.specs.Prelude.{OnOk, codes}
use Rattle.std.proofs.lemmas.List.{append_assoc, length-take-le}
use Rattle.flash_dev.specs.Moments.{Stays}
use Rattle.flash_dev.specs.Rules.{Leaves, block_filled, programmed}
use Rattle.flash_dev.proofs.Calls.{leaves_then, told_at}
use Rattle.flash_dev.proofs.Moments.{stays_weaken}
use Rattle.ftw_work.specs.Work.{IsWorkLeft}
use Rattle.var_types.specs.declared.work_state.WorkState.TheVariants.{Clean}
use Rattle.var_types.specs.Kept.{IsContentKept, spare}
use Rattle.var_types.specs.Placed.{IsOutsideKept}
use Rattle.var_types.specs.WorkArea.{clean_area, is_blank, work_mark}
use Rattle.var_types.proofs.Parts.{work_changes}
use Rattle.var_types.proofs.WorkAreas.{clean_says, length-clean_area}
use Rattle.ftw_work.proofs.OpenedGates.{work_replaced}
use Rattle.ftw_work.proofs.Steps.{erased_takes, programmed_at}

module _ (front back : List ℕ) (early : length front ≡ 61440) where
  -- the signature is programmed into an erased work area
  signed : (signature : List ℕ) → list_all (λ b. nat_lt b 256) signature ≡ true → length signature ≡ 15
      → programmed 61440 signature (front ++ (replicate 4096 255 ++ back)) ≡ (front ++ signature) ++ (replicate 4081 255 ++ back)
  signed signature all size =
      programmed_at 61440 front (replicate 4096 255 ++ back) signature early
      ∙ ap (λ list. front ++ list) (erased_takes 4096 4081 signature back all (omega (arith, size)))
      ∙ sym (append_assoc front signature (replicate 4081 255 ++ back))

  -- the gate behind it is opened
  opened : (signature : List ℕ) → length signature ≡ 15
      → programmed 61455 (254 ∷ []) ((front ++ signature) ++ (replicate 4081 255 ++ back)) ≡ front ++ ((signature ++ 254 ∷ [] ++ replicate 4080 255) ++ back)
  opened signature size =
      programmed_at 61455 (front ++ signature) (replicate 4081 255 ++ back) (254 ∷ []) (omega (arith, early, size, length-append front signature))
      ∙ ap (λ list. (front ++ signature) ++ list) (erased_takes 4081 4080 (254 ∷ []) back refl refl)
      ∙ append_assoc front signature (254 ∷ (replicate 4080 255 ++ back))
      ∙ ap (λ list. front ++ list) (sym (append_assoc signature (254 ∷ []) (replicate 4080 255 ++ back)) ∙ sym (append_assoc (signature ++ 254 ∷ []) (replicate 4080 255) back))

-- the work area that is left is one without used slots
unused : (signature : List ℕ) → signature ≡ codes "VARSVC-FTW-0001" → signature ++ 254 ∷ [] ++ replicate 4080 255 ≡ clean_area 0
unfolding clean_area
unused signature e = ap (λ list. list ++ 254 ∷ [] ++ replicate 4080 255) e

-- the three steps
pub made : (signature image left : List ℕ) → signature ≡ codes "VARSVC-FTW-0001" → length image ≡ 131072
    → left ≡ programmed 61455 (254 ∷ []) (programmed 61440 signature (block_filled 15 255 image)) → IsWorkLeft (Clean 0) image left
unfolding block_filled spare
made signature image left same size is =
    let front = take 61440 image in
    let back = drop 65536 image in
    let early : length front ≡ 61440 = length-take-le 61440 image (omega arith) in
    let all : list_all (λ b. nat_lt b 256) signature ≡ true = ap (list_all (λ b. nat_lt b 256)) same in
    let short : length signature ≡ 15 = ap length same in
    work_replaced (Clean 0) image left (clean_area 0) size (length-clean_area 0 (omega arith))
    (
    is
    ∙ ap (λ list. programmed 61455 (254 ∷ []) (programmed 61440 signature list)) (append_assoc front (replicate 4096 255) back)
    ∙ ap (programmed 61455 (254 ∷ [])) (signed front back early signature all short)
    ∙ opened front back early signature short
    ∙ ap (λ area. front ++ (area ++ back)) (unused signature same)
    )
    (clean_says 0 (omega arith))

-- what is told after the three steps
pub made_told : (signature : List ℕ) (old first second last : Option (List ℕ)) → signature ≡ codes "VARSVC-FTW-0001"
    → IfSome old (λ image. length image ≡ 131072)
    → Leaves (λ image left. left ≡ block_filled 15 255 image) old first
    → Leaves (λ image left. left ≡ programmed 61440 signature image) first second
    → Leaves (λ image left. left ≡ programmed 61455 (254 ∷ []) image) second last
    → Leaves (IsWorkLeft (Clean 0)) old last
made_told signature old first second last same size erased signed opened =
    leaves_then (λ image left. left ≡ programmed 61440 signature (block_filled 15 255 image)) (λ image left. left ≡ programmed 61455 (254 ∷ []) image)
    (IsWorkLeft (Clean 0)) old second last
    (leaves_then (λ image left. left ≡ block_filled 15 255 image) (λ image left. left ≡ programmed 61440 signature image)
    (λ image left. left ≡ programmed 61440 signature (block_filled 15 255 image)) old first second erased signed
    (λ image cells left told now e f. f ∙ ap (programmed 61440 signature) e))
    opened
    (λ image cells left told now e f.
    made signature image left same (told_at (λ list. length list ≡ 131072) old image size told) (f ∙ ap (programmed 61455 (254 ∷ [])) e))

module _ {F : Type 0} {moment : F → ℕ} {left_since : F → ℕ → List ℕ → Type 0} {holds : F → Option (List ℕ)} where
  -- changes of the work area keep the content while the spare is blank
  pub work_moments : (old new : F) → IfSome (holds old) (λ image. is_blank (spare image) ≡ true)
      → Stays (IsOutsideKept 61440 65536) moment left_since holds old new → Stays IsContentKept moment left_since holds old new
  work_moments old new blank run =
      stays_weaken (IsOutsideKept 61440 65536) IsContentKept old new run
      (λ image left told is. work_changes image left (told_at (λ list. is_blank (spare list) ≡ true) (holds old) image blank told) is)
