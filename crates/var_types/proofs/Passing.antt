-- How many entries pass a test of their keys: fewer are above one that passes.
use Rattle.std.proofs.Common.{◌≡◌, suc, Bool, true, false, cond, ℕ, ◌<◌, ◌≤◌, List, [], ◌∷◌, find, Some, is_lt, Ordering, Less, Equal, Greater, refl, sym, ap, subst, ◌∙◌, true≢false, arith}
use Rattle.std.proofs.lemmas.Cmp.{tied_itself}
use Rattle.std.specs.Cmp.{IsTotalOrder}
use Rattle.var_types.proofs.FirstKeys.{HoldsUpward, found_not_below, found_passes}

module _ {K X : Type 0} where
  -- how many entries pass a test of their keys
  abbrev pub count_passing : (K → Bool) → List (K × X) → ℕ
  count_passing p [] = 0
  count_passing p (e ∷ es) = cond (p e.0) (suc (count_passing p es)) (count_passing p es)

module _ {K X : Type 0} {R : K → K → Ordering} (o : IsTotalOrder R) (p : K → Bool) (up : HoldsUpward R p) where
  -- no more keys are above one that passes than pass
  above_at_most : (k : K) → p k ≡ true → (es : List (K × X)) → count_passing (λ j. is_lt (R k j)) es ≤ count_passing p es
  above_at_most k t [] = omega arith
  above_at_most k t (e ∷ es) = by (R k e.0) refl (p e.0) refl (above_at_most k t es)
    where
      by : (r : Ordering) → R k e.0 ≡ r → (b : Bool) → p e.0 ≡ b → count_passing (λ j. is_lt (R k j)) es ≤ count_passing p es
          → cond (is_lt r) (suc (count_passing (λ j. is_lt (R k j)) es)) (count_passing (λ j. is_lt (R k j)) es)
          ≤ cond b (suc (count_passing p es)) (count_passing p es)
      by Less h true u later = omega arith
      by Less h false u later = absurd (true≢false (sym (up k e.0 t h) ∙ u))
      by Equal h true u later = omega arith
      by Equal h false u later = later
      by Greater h true u later = omega arith
      by Greater h false u later = later

  -- fewer keys are above one found than pass
  pub fewer_above : (es : List (K × X)) (e : K × X) → find (λ (x : K × X). p x.0) es ≡ Some e
      → count_passing (λ j. is_lt (R e.0 j)) es < count_passing p es
  fewer_above [] e h = cc
  fewer_above (x ∷ xs) e h = by (p x.0) refl h (fewer_above xs e)
    where
      by : (b : Bool) → p x.0 ≡ b → cond b (Some x) (find (λ (x : K × X). p x.0) xs) ≡ Some e
          → (find (λ (x : K × X). p x.0) xs ≡ Some e → count_passing (λ j. is_lt (R e.0 j)) xs < count_passing p xs)
          → cond (is_lt (R e.0 x.0)) (suc (count_passing (λ j. is_lt (R e.0 j)) xs)) (count_passing (λ j. is_lt (R e.0 j)) xs)
          < cond b (suc (count_passing p xs)) (count_passing p xs)
      by true t h later =
          let same : x ≡ e = cc in
          let not_above : is_lt (R e.0 x.0) ≡ false = ap (λ (y : K × X). is_lt (R e.0 y.0)) same ∙ ap is_lt (tied_itself o e.0) in
          let holds : p e.0 ≡ true = ap (λ (y : K × X). p y.0) (sym same) ∙ t in
          subst (λ b. cond b (suc (count_passing (λ j. is_lt (R e.0 j)) xs)) (count_passing (λ j. is_lt (R e.0 j)) xs) < suc (count_passing p xs))
          (sym not_above) (let most = above_at_most e.0 holds xs in omega arith)
      by false n h later =
          subst (λ b. cond b (suc (count_passing (λ j. is_lt (R e.0 j)) xs)) (count_passing (λ j. is_lt (R e.0 j)) xs) < count_passing p xs)
          (sym (found_not_below p up e.0 x.0 (found_passes p xs e h) n)) (later h)
