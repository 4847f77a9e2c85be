-- What a heal and an edit of the non-volatile store leave of the flash.
use Rattle.std.proofs.Common.{◌≡◌, inl, inr, ⊎_elim, ℕ, List, take, Option, Some, None, IfSome, refl, sym, ap, subst, ◌∙◌, true≢false}
use Rattle.std.specs.Prelude.{IsSome, unwrap_or}
use Rattle.flash_dev.proofs.Calls.{told_at}
use Rattle.flash_dev.proofs.Moments.{stays_then, stays_weaken}
use Rattle.flash_dev.specs.Moments.{Stays}
use Rattle.mm_writer.specs.Editing.{IsEditLeft, IsHeldBut, IsStillHeld}
use Rattle.nv_store.proofs.Keeps.{kept_of}
use Rattle.nv_store.specs.Mirror.{IsTold}
use Rattle.nv_store.specs.Outcome.{IsChangeLeft, IsLeftInDoubt}
use Rattle.var_types.specs.declared.key.Key.{Key}
use Rattle.var_types.specs.declared.store.Store.TheVariants.{NonVolatile}
use Rattle.var_types.specs.declared.variable.Variable.{Variable}
use Rattle.var_types.specs.Kept.{IsContentOr, content, kept}
use Rattle.var_types.specs.Layout.{headers_size}
use Rattle.var_types.specs.Stores.{map_in}

-- what is told of an image says what it keeps
pub told_held : (mirror : List ℕ) (doubt told : Option (List ℕ)) → IfSome told (IsTold mirror doubt)
    → (doubt ≡ None → IfSome told (λ image. kept image ≡ map_in NonVolatile mirror)) → IfSome told (IsHeldBut mirror doubt)
told_held mirror doubt None is keeps = tt
told_held mirror None (Some image) is keeps = keeps refl
told_held mirror (Some after) (Some image) is keeps = is.kept

-- an image that keeps the mirror's variables keeps what it may
held_mirror : (mirror : List ℕ) (doubt : Option (List ℕ)) (image : List ℕ) → kept image ≡ map_in NonVolatile mirror → IsHeldBut mirror doubt image
held_mirror mirror None image is = is
held_mirror mirror (Some after) image is = inl is

-- where no change is in doubt, it keeps those
held_sure : (mirror : List ℕ) (doubt : Option (List ℕ)) (image : List ℕ) → doubt ≡ None → IsHeldBut mirror doubt image → kept image ≡ map_in NonVolatile mirror
held_sure mirror doubt image sure is = subst (λ d. IsHeldBut mirror d image) sure is

-- a change in doubt stays so where its heal fails
pub still_some : (mirror : List ℕ) (doubt : Option (List ℕ)) → IsSome doubt → Some (unwrap_or doubt mirror) ≡ doubt
still_some mirror None some = absurd (true≢false (sym some))
still_some mirror (Some after) some = refl

-- an image that keeps the content of another keeps its variables
content_kept : (image left : List ℕ) → content left ≡ content image → kept left ≡ kept image
content_kept image left same = kept_of left (content image) same ∙ sym (kept_of image (content image) refl)

-- a heal leaves what the image may have kept
heal_held : (mirror : List ℕ) (doubt : Option (List ℕ)) (image left : List ℕ) → IsSome doubt → IsTold mirror doubt image → IsContentOr mirror image left
    → IsHeldBut mirror doubt left
heal_held mirror None image left some told is = absurd (true≢false (sym some))
heal_held mirror (Some after) image left some told is =
    ⊎_elim
    (λ (same : content left ≡ content image).
    let e = content_kept image left same in ⊎_elim (λ before. inl (e ∙ before)) (λ with_it. inr (e ∙ with_it)) told.kept)
    (λ (healed : content left ≡ mirror). inl (kept_of left mirror healed)) is.content

-- and its headers
heal_headers : (mirror : List ℕ) (doubt : Option (List ℕ)) (image left : List ℕ) → IsSome doubt → IsTold mirror doubt image → IsContentOr mirror image left
    → take headers_size (content left) ≡ take headers_size (content image)
heal_headers mirror None image left some told is = absurd (true≢false (sym some))
heal_headers mirror (Some after) image left some told is =
    ⊎_elim (λ (same : content left ≡ content image). ap (take headers_size) same)
    (λ (healed : content left ≡ mirror). ap (take headers_size) healed ∙ sym told.headers) is.content

-- a failed change of a store leaves the doubt that it leaves of the store before the heal
pub left_healed : (change : List (Key × Variable) → List (Key × Variable)) (old mid new : List ℕ × Option (List ℕ)) → mid.0 ≡ old.0
    → IsLeftInDoubt change mid new → IsLeftInDoubt change old new
left_healed change old mid new same left = record {
  mirror = left.mirror ∙ same;
  after = left.after;
  doubt = left.doubt;
  map = left.map ∙ ap (λ mirror. change (map_in NonVolatile mirror)) same;
}

module _ {F : Type 0} {moment : F → ℕ} {left_since : F → ℕ → List ℕ → Type 0} {holds : F → Option (List ℕ)} where
  -- the moments of an edit of a store that isn't in doubt
  pub sure_moments : (change : List (Key × Variable) → List (Key × Variable)) (store : List ℕ × Option (List ℕ)) (old new : F) → IfSome (holds old) (λ image. kept image ≡ map_in NonVolatile store.0)
      → Stays (IsChangeLeft change) moment left_since holds old new → Stays (IsEditLeft change store) moment left_since holds old new
  sure_moments change store old new keeps run =
      stays_weaken (IsChangeLeft change) (IsEditLeft change store) old new run
      (λ image left told is.
      let was : kept image ≡ map_in NonVolatile store.0 =
      told_at (λ cells. kept cells ≡ map_in NonVolatile store.0) (holds old) image keeps told in
      record {
        kept =
            ⊎_elim (λ (same : kept left ≡ kept image). inl (held_mirror store.0 store.1 left (same ∙ was)))
            (λ (with_it : kept left ≡ change (kept image)). inr (with_it ∙ ap change was)) is.kept;
        headers = is.headers;
        sound = is.sound;
      })

  module _ (store : List ℕ × Option (List ℕ)) (some : IsSome store.1) (old mid : F) (told : IfSome (holds old) (IsTold store.0 store.1)) (healing : Stays (IsContentOr store.0) moment left_since holds old mid) where
    -- those of a heal
    pub heal_moments : Stays (IsStillHeld store) moment left_since holds old mid
    heal_moments =
        stays_weaken (IsContentOr store.0) (IsStillHeld store) old mid healing
        (λ image left at is. heal_held store.0 store.1 image left some (told_at (IsTold store.0 store.1) (holds old) image told at) is)

    heal_left : (change : List (Key × Variable) → List (Key × Variable)) (image left : List ℕ) → IsTold store.0 store.1 image → IsContentOr store.0 image left
        → IsEditLeft change store image left
    heal_left change image left is healed = record {
      kept = inl (heal_held store.0 store.1 image left some is healed);
      headers = heal_headers store.0 store.1 image left some is healed;
      sound = healed.sound;
    }

    -- of a heal as an edit's
    pub healed_moments : (change : List (Key × Variable) → List (Key × Variable)) → Stays (IsEditLeft change store) moment left_since holds old mid
    healed_moments change =
        stays_weaken (IsContentOr store.0) (IsEditLeft change store) old mid healing
        (λ image left at is. heal_left change image left (told_at (IsTold store.0 store.1) (holds old) image told at) is)

    -- of a heal and then an edit
    pub both_moments : (change : List (Key × Variable) → List (Key × Variable)) (healed : List ℕ × Option (List ℕ)) (new : F) → healed.0 ≡ store.0 → healed.1 ≡ None
        → Stays (IsEditLeft change healed) moment left_since holds mid new → Stays (IsEditLeft change store) moment left_since holds old new
    both_moments change healed new same sure edit =
        stays_then (IsContentOr store.0) (IsContentOr store.0) (IsEditLeft change healed) (IsEditLeft change store) old mid new healing healing.now edit
        (λ image left at is. heal_left change image left (told_at (IsTold store.0 store.1) (holds old) image told at) is)
        (λ image cells left at now ended is.
        let tells = told_at (IsTold store.0 store.1) (holds old) image told at in
        record {
          kept =
              ⊎_elim
              (λ held.
              inl (held_mirror store.0 store.1 left (held_sure healed.0 healed.1 left sure held ∙ ap (map_in NonVolatile) same)))
              (λ (with_it : kept left ≡ change (map_in NonVolatile healed.0)). inr (with_it ∙ ap (λ mirror. change (map_in NonVolatile mirror)) same)) is.kept;
          headers = is.headers ∙ heal_headers store.0 store.1 image cells some tells ended;
          sound = λ sound. is.sound (ended.sound sound);
        })
