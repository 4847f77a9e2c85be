-- Images that stay accepted, and what openings keep of them.
use Rattle.std.proofs.Common.{◌≡◌, ◌⊎◌, ℕ, ◌==◌, Bool, true, false, List, [], ◌∷◌, length, take, None, Result, Ok, Err, IsOk, if◌then◌else◌, refl, sym, ap, subst, ◌∙◌}
use Rattle.std.specs.List.{AllByRecursion}
use Rattle.flash_dev.specs.declared.geometry.Geometry.{Geometry}
use Rattle.flash_dev.specs.declared.image_fault.ImageFault.{ImageFault}
use Rattle.flash_dev.specs.declared.image_fault.ImageFault.TheVariants.{ImageSize}
use Rattle.flash_dev.specs.Geometry.{geometry_of}
use Rattle.ftw_mount.specs.Mount.{content_geometry}
use Rattle.nv_store.specs.Laws.{AreOpenings}
use Rattle.nv_store.specs.Opening.{refusal_by, refusal_of}
use Rattle.nv_store.specs.Outcome.{IsChangeLeft, IsKeptWith}
use Rattle.nv_store.proofs.Openings.{geometry_is, own_by}
use Rattle.var_types.specs.declared.key.Key.{Key}
use Rattle.var_types.specs.declared.variable.Variable.{Variable}
use Rattle.var_types.specs.declared.work_state.WorkState.{WorkState}
use Rattle.var_types.specs.declared.work_state.WorkState.TheVariants.{Unclean}
use Rattle.var_types.specs.Kept.{IsSound, content, kept, spare, work_area}
use Rattle.var_types.specs.WorkArea.{is_blank, work_state}

-- an image that isn't refused has a geometry, and is no foreign work
has_geometry : (g : Result Geometry ImageFault) (b : Bool) (state : WorkState) → refusal_by g b state ≡ None → IsOk g
has_geometry (Ok geometry) b state e = refl
has_geometry (Err fault) b state e = cc

is_own : (g : Result Geometry ImageFault) (b : Bool) (state : WorkState) → refusal_by g b state ≡ None → (b ≡ false) × (state ≡ Unclean) → ⊥
is_own (Err fault) b state e foreign = cc
is_own (Ok geometry) b state e foreign =
    let same : refusal_by (Ok geometry) b state ≡ refusal_by (Ok geometry) false Unclean =
    ap (λ x. refusal_by (Ok geometry) x state) foreign.0 ∙ ap (refusal_by (Ok geometry) false) foreign.1 in
    let no = sym e ∙ same in cc

sized_geometry : (b : Bool) (g : Result Geometry ImageFault) (n : ℕ) → IsOk (if b then g else Err (ImageSize n 131072)) → IsOk g
sized_geometry true g n ok = ok
sized_geometry false g n ok = cc

accepted_front : (image : List ℕ) → IsOk (content_geometry image) → IsOk (geometry_of (take 100 (content image)))
unfolding content_geometry
accepted_front image ok = sized_geometry (length image == 131072) (geometry_of (take 100 (content image))) (length image) ok

-- an image with the headers of an accepted one, that is no foreign work unless that is, is accepted
stays_accepted : (image left : List ℕ) → refusal_of image ≡ None → length left ≡ 131072 → take 100 (content left) ≡ take 100 (content image)
    → (IsSound image → IsSound left) → refusal_of left ≡ None
unfolding refusal_of
stays_accepted image left accepted size headers sound =
    let ok = accepted_front image (has_geometry (content_geometry image) (is_blank (spare image)) (work_state (work_area image)) accepted) in
    let front : IsOk (geometry_of (take 100 (content left))) = subst (λ f. IsOk (geometry_of f)) (sym headers) ok in
    own_by (content_geometry left) (is_blank (spare left)) (work_state (work_area left))
    (subst (λ g. IsOk g) (sym (geometry_is left (content left) size refl)) front)
    (sound (is_own (content_geometry image) (is_blank (spare image)) (work_state (work_area image)) accepted))

-- what holds of an accepted image's variables holds of those that openings leave
module _ (P : List (Key × Variable) → Type 0) where
  opened_so : (image : List ℕ) (lefts : List (List ℕ)) → refusal_of image ≡ None → P (kept image) → AreOpenings image lefts
      → AllByRecursion (λ left. P (kept left) × (refusal_of left ≡ None)) lefts
  opened_so image [] accepted is openings = tt
  opened_so image (left ∷ lefts) accepted is openings =
      let first = openings.0.0 in
      let now : refusal_of left ≡ None = stays_accepted image left accepted openings.0.1 first.headers first.sound in
      let same : P (kept left) = subst P (sym first.kept) is in
      ((same, now), opened_so left lefts now same openings.1)

pub openings_keep : (image : List ℕ) (lefts : List (List ℕ)) → refusal_of image ≡ None → AreOpenings image lefts
    → AllByRecursion (λ left. (kept left ≡ kept image) × (refusal_of left ≡ None)) lefts
openings_keep image lefts accepted openings = opened_so (λ variables. variables ≡ kept image) image lefts accepted refl openings

pub changes_keep : (change : List (Key × Variable) → List (Key × Variable)) (image left : List ℕ) (lefts : List (List ℕ)) → refusal_of image ≡ None
    → length left ≡ 131072 → IsChangeLeft change image left → AreOpenings left lefts
    → AllByRecursion (λ last. ((kept last ≡ kept image) ⊎ IsKeptWith change image last) × (refusal_of last ≡ None)) (left ∷ lefts)
changes_keep change image left lefts accepted size is openings =
    let now = stays_accepted image left accepted size is.headers is.sound in
    ((is.kept, now), opened_so (λ variables. (variables ≡ kept image) ⊎ (variables ≡ change (kept image))) left lefts now is.kept openings)
