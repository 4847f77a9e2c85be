-- How a sum over the entries of a map changes as an entry goes or comes, where the weight may depend on the key.
use Rattle.std.proofs.Common.{◌≡◌, ℕ, ◌+◌, Bool, true, false, cond, List, [], ◌∷◌, refl, sym, ap, arith, sum_by}
use Rattle.std.proofs.lemmas.List.Sums.{sum_by-cons}
use Rattle.std.proofs.lemmas.Map.{NonePasses}
use Rattle.std.proofs.lemmas.Map.Entries.{none_below_head}
use Rattle.std.proofs.lemmas.Map.Keys.{sorted_tail}
use Rattle.std.proofs.lemmas.Map.Lookups.{CmpEqualImpliesEq}
use Rattle.std.specs.BTreeMap.{is_at, insert_entry}
use Rattle.std.specs.Cmp.{IsTotalOrder}
use Rattle.std.specs.List.Sorted.{IsStrictlySortedBy}
use Rattle.std.specs.Map.{keys_of, lookup, remove_entry}
use Rattle.std.specs.Ordering.{is_eq, match_ordering}
use Rattle.std.specs.Prelude.{Option, Some, None}
use Rattle.std.specs.declared.cmp.Ordering.{Ordering}
use Rattle.std.specs.declared.cmp.Ordering.TheVariants.{Less, Equal, Greater}

-- the weight of what a look-up found at a key
abbrev pub weight_at : {K X : Type 0} → (K × X → ℕ) → K → Option X → ℕ
weight_at f k None = 0
weight_at f k (Some v) = f (k, v)

module _ {K X : Type 0} (f : K × X → ℕ) where
  -- one entry more, which the test may find
  remove_case : (k : K) (e : K × X) (es rest : List (K × X)) (found : Option X) (b : Bool) → (b ≡ true → e.0 ≡ k)
      → sum_by f rest + weight_at f k found ≡ sum_by f es
      → sum_by f (cond b es (e ∷ rest)) + weight_at f k (cond b (Some e.1) found) ≡ sum_by f (e ∷ es)
  remove_case k e es rest found true one h =
      let d : f (k, e.1) ≡ f e = ap (λ q. f (q, e.1)) (sym (one refl)) in omega (arith, sum_by-cons f e es)
  remove_case k e es rest found false one h = omega (arith, sum_by-cons f e rest, sum_by-cons f e es)

  -- the entries without the one that a test finds, and that one's weight, have the weight of all
  pub sum_by-remove_entry : (test : K → Bool) (k : K) → ((q : K) → test q ≡ true → q ≡ k)
      → (es : List (K × X)) → sum_by f (remove_entry test es) + weight_at f k (lookup test es) ≡ sum_by f es
  sum_by-remove_entry test k one [] = refl
  sum_by-remove_entry test k one (e ∷ es) =
      remove_case k e es (remove_entry test es) (lookup test es) (test e.0) (one e.0) (sum_by-remove_entry test k one es)

-- where no key passes, nothing is removed
remove_none : {K X : Type 0} (test : K → Bool) (es : List (K × X)) → NonePasses test es → remove_entry test es ≡ es
remove_none test [] none = refl
remove_none test (e ∷ es) none =
    rw none.0 (ap (λ rest. e ∷ rest) (remove_none test es none.1))

module _ {K X : Type 0} (f : K × X → ℕ) {R : K → K → Ordering} (total : IsTotalOrder R) (exact : CmpEqualImpliesEq R) where
  -- one entry more, which may come after the new one, have its key, or come before it
  insert_case : (k : K) (v : X) (e : K × X) (es put rest : List (K × X)) (o : Ordering) → (o ≡ Equal → k ≡ e.0) → (o ≡ Less → rest ≡ es)
      → sum_by f put ≡ sum_by f rest + f (k, v)
      → sum_by f (match_ordering o ((k, v) ∷ e ∷ es) ((e.0, v) ∷ es) (e ∷ put)) ≡ sum_by f (cond (is_eq o) es (e ∷ rest)) + f (k, v)
  insert_case k v e es put rest Less same first h =
      let r : sum_by f rest ≡ sum_by f es = ap (sum_by f) (first refl) in
      omega (arith, sum_by-cons f (k, v) (e ∷ es), sum_by-cons f e es, sum_by-cons f e rest)
  insert_case k v e es put rest Equal same first h =
      let d : f (e.0, v) ≡ f (k, v) = ap (λ q. f (q, v)) (sym (same refl)) in omega (arith, sum_by-cons f (e.0, v) es)
  insert_case k v e es put rest Greater same first h = omega (arith, sum_by-cons f e put, sum_by-cons f e rest)

  -- the entries with one put at its key have the weight of the others and of that one
  pub sum_by-insert_entry : (k : K) (v : X) (es : List (K × X)) → IsStrictlySortedBy R (keys_of es)
      → sum_by f (insert_entry R es k v) ≡ sum_by f (remove_entry (is_at (R k)) es) + f (k, v)
  sum_by-insert_entry k v [] sorted = refl
  sum_by-insert_entry k v (e ∷ es) sorted =
      insert_case k v e es (insert_entry R es k v) (remove_entry (is_at (R k)) es) (R k e.0) (exact k e.0)
      (λ less. remove_none (is_at (R k)) es (none_below_head total k e es sorted less).1)
      (sum_by-insert_entry k v es (sorted_tail R e.0 (keys_of es) sorted))
