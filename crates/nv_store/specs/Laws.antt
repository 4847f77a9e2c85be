-- What openings keep of an image, however often they are interrupted.
use Rattle.std.specs.Prelude.{◌≡◌, ◌⊎◌, ℕ, List, [], ◌∷◌, length, None}
use Rattle.std.specs.List.{AllByRecursion}
use Rattle.nv_store.specs.Opening.{IsOpeningLeft, refusal_of}
use Rattle.nv_store.specs.Outcome.{IsChangeLeft, IsKeptWith}
use Rattle.var_types.specs.declared.key.Key.{Key}
use Rattle.var_types.specs.declared.variable.Variable.{Variable}
use Rattle.var_types.specs.Kept.{kept}
use Rattle.var_types.specs.Layout.{image_size}

-- images of which each is left by an opening of the one before it (this project's own)
abbrev pub AreOpenings : List ℕ → List (List ℕ) → Type 0
AreOpenings image [] = Unit {0}
AreOpenings image (left ∷ lefts) = (IsOpeningLeft image left × (length left ≡ image_size)) × AreOpenings left lefts

-- each image that openings of an accepted one leave, one after the other and wherever they are interrupted, is accepted and keeps its variables
-- (this project's own)
abbrev pub OpeningsKeepTheVariables : Type 0
OpeningsKeepTheVariables =
    (image : List ℕ) (lefts : List (List ℕ)) → refusal_of image ≡ None → AreOpenings image lefts
    → AllByRecursion (λ left. (kept left ≡ kept image) × (refusal_of left ≡ None)) lefts

-- an image that a change of an accepted one leaves, wherever it is interrupted, is accepted and keeps the variables of before or those with the
-- change; and so does each that openings leave of it (this project's own)
abbrev pub ChangesAreWhole : Type 0
ChangesAreWhole =
    (change : List (Key × Variable) → List (Key × Variable)) (image left : List ℕ) (lefts : List (List ℕ)) → refusal_of image ≡ None
    → length left ≡ image_size → IsChangeLeft change image left → AreOpenings left lefts
    → AllByRecursion (λ last. ((kept last ≡ kept image) ⊎ IsKeptWith change image last) × (refusal_of last ≡ None)) (left ∷ lefts)
