-- The moments of a flash that records its images.
use Rattle.std.proofs.Common.{◌≡◌, inl, inr, ⊎_elim, ◌⊎◌, ℕ, ◌≤◌, List, [], ◌∷◌, ◌++◌, length, drop, ap, arith, subst, sym, length-append}
use Rattle.std.specs.List.{Contains}
use Rattle.std.proofs.lemmas.List.{drop-append-le}
use Rattle.std.proofs.lemmas.List.Elements.{Contains-append_cases}
use Rattle.flash_dev.specs.RecordingFlash.{RecordedState, StaysRecorded}
use Rattle.flash_dev.specs.Told.{only_one}

-- one image more is among those since a moment, and all others were there before
one_more_image : (images : List (List ℕ)) (bytes : List ℕ) (moment : ℕ) (left : List ℕ) → moment ≤ length images
    → Contains (drop moment (images ++ bytes ∷ [])) left → Contains (drop moment images) left ⊎ (left ≡ bytes)
one_more_image images bytes moment left early since =
    let split = subst (λ (list : List (List ℕ)). Contains list left) (drop-append-le moment images (bytes ∷ []) early) since in
    ⊎_elim inl (λ last. inr (only_one bytes left last)) (Contains-append_cases (drop moment images) (bytes ∷ []) left split)

-- a call that changes no image
pub unrecorded_moments : (IsLeft : List ℕ → List ℕ → Type 0) (old new : RecordedState) → new.past ≡ old.past → new.bytes ≡ old.bytes
    → IsLeft old.bytes old.bytes → StaysRecorded IsLeft old new
unrecorded_moments IsLeft old new past bytes is = record {
  later = omega (arith, ap length past);
  each = λ t left early since.
      inl (subst (λ (list : List (List ℕ)). Contains (drop t (list ++ old.bytes ∷ [])) left) past (subst (λ (now : List ℕ). Contains (drop t (new.past ++ now ∷ [])) left) bytes since));
  now = subst (IsLeft old.bytes) (sym bytes) is;
}

-- a call that is done, whose bytes of before were recorded
pub recorded_moments : (IsLeft : List ℕ → List ℕ → Type 0) (old new : RecordedState) → new.past ≡ old.past ++ old.bytes ∷ []
    → IsLeft old.bytes new.bytes → StaysRecorded IsLeft old new
recorded_moments IsLeft old new past is = record {
  later = omega (arith, ap length past, length-append old.past (old.bytes ∷ []));
  each = λ t left early since.
      let images : List (List ℕ) = old.past ++ old.bytes ∷ [] in
      let recorded = subst (λ (list : List (List ℕ)). Contains (drop t (list ++ new.bytes ∷ [])) left) past since in
      ⊎_elim inl (λ last. inr (subst (IsLeft old.bytes) (sym last) is))
      (one_more_image images new.bytes t left (omega (arith, early, length-append old.past (old.bytes ∷ []))) recorded);
  now = is;
}
