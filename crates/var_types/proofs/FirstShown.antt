-- The first entry that is shown and passes a test, where some are not shown: it comes of the first that passes.
use Rattle.std.proofs.Common.{◌≡◌, Bool, true, false, cond, ◌&&◌, List, [], ◌∷◌, find, Option, Some, None, is_lt, if◌then◌else◌, Ordering, Less, refl, sym, ap, ◌∙◌, true≢false}
use Rattle.std.proofs.lemmas.Cmp.{tied_itself}
use Rattle.std.specs.Cmp.{IsTotalOrder}
use Rattle.std.specs.List.{AllByRecursion}
use Rattle.std.specs.List.Sorted.{IsStrictlySortedBy}
use Rattle.std.specs.Map.{keys_of}
use Rattle.var_types.proofs.FirstKeys.{HoldsUpward, found_not_below, found_passes}

module _ {K X : Type 0} (shown : K × X → Bool) where
  -- the first entry that is shown and passes
  abbrev pub first_shown : (K → Bool) → List (K × X) → Option (K × X)
  first_shown p es = find (λ (e : K × X). shown e && p e.0) es

  -- two tests that agree on all keys find the same
  first_shown_alike : (p q : K → Bool) (es : List (K × X)) → AllByRecursion (λ k. p k ≡ q k) (keys_of es) → first_shown p es ≡ first_shown q es
  first_shown_alike p q [] a = refl
  first_shown_alike p q (e ∷ es) a =
      ap (λ b. cond (shown e && b) (Some e) (first_shown p es)) a.0 ∙ ap (cond (shown e && q e.0) (Some e)) (first_shown_alike p q es a.1)

  -- the first entry that is shown, behind a first one that isn't
  not_shown : (p : K → Bool) (e : K × X) (es : List (K × X)) → p e.0 ≡ false → first_shown p (e ∷ es) ≡ first_shown p es
  not_shown p e es n = by (shown e) (p e.0) n
    where
      by : (a b : Bool) → b ≡ false → cond (a && b) (Some e) (first_shown p es) ≡ first_shown p es
      by true true n = absurd (true≢false n)
      by true false n = refl
      by false b n = refl

module _ {K X : Type 0} {R : K → K → Ordering} (o : IsTotalOrder R) (shown : K × X → Bool) where
  -- what comes of a first entry: it is shown, or the first behind it that is
  abbrev pub from_entry : List (K × X) → Option (K × X) → Option (K × X)
  from_entry es None = None
  from_entry es (Some e) = if shown e then Some e else first_shown shown (λ k. is_lt (R e.0 k)) es

  not_above_itself : (k : K) → is_lt (R k k) ≡ false
  not_above_itself k = ap is_lt (tied_itself o k)

  all_above : (p : K → Bool) → HoldsUpward R p → (k : K) → p k ≡ true → (ks : List K) → AllByRecursion (λ j. R k j ≡ Less) ks
      → AllByRecursion (λ j. p j ≡ is_lt (R k j)) ks
  all_above p up k t [] a = tt
  all_above p up k t (j ∷ ks) a = (up k j t a.0 ∙ sym (ap is_lt a.0), all_above p up k t ks a.1)

  module _ (p : K → Bool) (up : HoldsUpward R p) where
    -- the first entry that is shown and passes comes of the first that passes
    pub first_shown-is : (es : List (K × X)) → IsStrictlySortedBy R (keys_of es)
        → first_shown shown p es ≡ from_entry es (find (λ (e : K × X). p e.0) es)
    unfolding IsStrictlySortedBy
    first_shown-is [] s = refl
    first_shown-is (x ∷ xs) s = by (p x.0) refl (shown x) refl (first_shown-is xs s.1)
      where
        later : (found : Option (K × X)) → find (λ (e : K × X). p e.0) xs ≡ found → p x.0 ≡ false → from_entry xs found ≡ from_entry (x ∷ xs) found
        later None h n = refl
        later (Some e) h n =
            ap (cond (shown e) (Some e))
            (sym (not_shown shown (λ k. is_lt (R e.0 k)) x xs (found_not_below p up e.0 x.0 (found_passes p xs e h) n)))

        by : (b : Bool) → p x.0 ≡ b → (a : Bool) → shown x ≡ a → first_shown shown p xs ≡ from_entry xs (find (λ (e : K × X). p e.0) xs)
            → cond (a && b) (Some x) (first_shown shown p xs) ≡ from_entry (x ∷ xs) (cond b (Some x) (find (λ (e : K × X). p e.0) xs))
        by true t true u rest = sym (ap (λ w. cond w (Some x) (first_shown shown (λ k. is_lt (R x.0 k)) (x ∷ xs))) u)
        by true t false u rest =
            first_shown_alike shown p (λ k. is_lt (R x.0 k)) xs (all_above p up x.0 t (keys_of xs) s.0)
            ∙ sym (not_shown shown (λ k. is_lt (R x.0 k)) x xs (not_above_itself x.0))
            ∙ sym (ap (λ w. cond w (Some x) (first_shown shown (λ k. is_lt (R x.0 k)) (x ∷ xs))) u)
        by false n true u rest = rest ∙ later (find (λ (e : K × X). p e.0) xs) refl n
        by false n false u rest = rest ∙ later (find (λ (e : K × X). p e.0) xs) refl n
