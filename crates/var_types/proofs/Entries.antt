-- Entries in key order: what one more entry does to a look-up and to the order, and that equal look-ups give equal entries.
use Rattle.std.proofs.Common.{◌≡◌, Bool, true, false, cond, List, [], ◌∷◌, refl, sym, ap, ◌∙◌, ⊎_elim, true≢false, is_eq, Option, Some, None, is_some, unwrap_or, Ordering, Less, Equal, Greater}
use Rattle.std.proofs.lemmas.Bool.{cases_Bool}
use Rattle.std.proofs.lemmas.Cmp.{eq_by_cmp_equiv, tied_itself}
use Rattle.std.proofs.lemmas.Map.{lookup-none}
use Rattle.std.proofs.lemmas.Map.Entries.{lookup_head, lookup_tail, none_below_head, none_past_head}
use Rattle.std.proofs.lemmas.Map.Keys.{IsDistinct-from_sorted, sorted_tail}
use Rattle.std.proofs.lemmas.Map.Lookups.{CmpEqualImpliesEq}
use Rattle.std.specs.BTreeMap.{insert_entry, is_at}
use Rattle.std.specs.Cmp.{IsTotalOrder}
use Rattle.std.specs.List.{AllByRecursion}
use Rattle.std.specs.List.Sorted.{IsStrictlySortedBy}
use Rattle.std.specs.Map.{keys_of, lookup}
use Rattle.std.specs.Ordering.{match_ordering, ordering_reverse}

-- an option that holds a value is not None
not_none : {X : Type 0} (v : X) → Some v ≡ None → ⊥
not_none v e = true≢false (ap is_some e)

module _ {K : Type 0} {R : K → K → Ordering} (o : IsTotalOrder R) where
  -- a key below another is below all that are above that one
  below_all : (k j : K) (ks : List K) → R k j ≡ Less → AllByRecursion (λ y. R j y ≡ Less) ks → AllByRecursion (λ y. R k y ≡ Less) ks
  below_all k j [] p a = tt
  below_all k j (y ∷ ys) p a = (o.trans k j y p a.0, below_all k j ys p a.1)

  -- keys that compare alike compare to a third alike
  alike : (k j q : K) → R k j ≡ Equal → is_eq (R q j) ≡ is_eq (R q k)
  alike k j q p = let e = eq_by_cmp_equiv o in e.symm q j ∙ sym (e.congr k j q (ap is_eq p)) ∙ e.symm k q

  -- a key that is one of two apart is not the other
  not_both : (k j q : K) → R k j ≡ Greater → is_eq (R q j) ≡ true → is_eq (R q k) ≡ false
  not_both k j q p t = let e = eq_by_cmp_equiv o in e.congr q j k t ∙ e.symm j k ∙ ap is_eq p

module _ {K X : Type 0} {R : K → K → Ordering} (o : IsTotalOrder R) (k : K) (v : X) where
  twice : (b c : Bool) (u : X) (w : Option X) → b ≡ c → cond b (Some v) w ≡ cond c (Some v) (cond b (Some u) w)
  twice true true u w h = refl
  twice true false u w h = absurd (true≢false h)
  twice false true u w h = absurd (true≢false (sym h))
  twice false false u w h = refl

  swapped : (b c : Bool) (u : X) (w : Option X) → (b ≡ true → c ≡ false) → cond b (Some u) (cond c (Some v) w) ≡ cond c (Some v) (cond b (Some u) w)
  swapped true true u w h = absurd (true≢false (h refl))
  swapped true false u w h = refl
  swapped false c u w h = refl

  -- what stands at each key after one more entry
  pub lookup-insert_entry : (es : List (K × X)) (q : K)
      → lookup (is_at (R q)) (insert_entry R es k v) ≡ cond (is_eq (R q k)) (Some v) (lookup (is_at (R q)) es)
  lookup-insert_entry [] q = refl
  lookup-insert_entry (e ∷ es) q = by (R k e.0) refl (lookup-insert_entry es q)
    where
      by : (r : Ordering) → R k e.0 ≡ r
          → lookup (is_at (R q)) (insert_entry R es k v) ≡ cond (is_eq (R q k)) (Some v) (lookup (is_at (R q)) es)
          → lookup (is_at (R q)) (match_ordering r ((k, v) ∷ e ∷ es) ((e.0, v) ∷ es) (e ∷ insert_entry R es k v))
          ≡ cond (is_eq (R q k)) (Some v) (cond (is_eq (R q e.0)) (Some e.1) (lookup (is_at (R q)) es))
      by Less p later = refl
      by Equal p later = twice (is_eq (R q e.0)) (is_eq (R q k)) e.1 (lookup (is_at (R q)) es) (alike o k e.0 q p)
      by Greater p later =
          ap (cond (is_eq (R q e.0)) (Some e.1)) later
          ∙ swapped (is_eq (R q e.0)) (is_eq (R q k)) e.1 (lookup (is_at (R q)) es) (not_both o k e.0 q p)

  -- what holds of each key and of k holds of each key after one more entry
  all_keys-insert_entry : (P : K → Type 0) (es : List (K × X)) → P k → AllByRecursion P (keys_of es) → AllByRecursion P (keys_of (insert_entry R es k v))
  all_keys-insert_entry P [] p a = (p, tt)
  all_keys-insert_entry P (e ∷ es) p a = by (R k e.0) (all_keys-insert_entry P es p a.1)
    where
      by : (r : Ordering) → AllByRecursion P (keys_of (insert_entry R es k v))
          → AllByRecursion P (keys_of (match_ordering r ((k, v) ∷ e ∷ es) ((e.0, v) ∷ es) (e ∷ insert_entry R es k v)))
      by Less later = (p, a)
      by Equal later = a
      by Greater later = (a.0, later)

  -- entries in key order stay so after one more
  pub sorted-insert_entry : (es : List (K × X)) → IsStrictlySortedBy R (keys_of es) → IsStrictlySortedBy R (keys_of (insert_entry R es k v))
  unfolding IsStrictlySortedBy
  sorted-insert_entry [] s = (tt, tt)
  sorted-insert_entry (e ∷ es) s = by (R k e.0) refl (sorted-insert_entry es s.1)
    where
      by : (r : Ordering) → R k e.0 ≡ r → IsStrictlySortedBy R (keys_of (insert_entry R es k v))
          → IsStrictlySortedBy R (keys_of (match_ordering r ((k, v) ∷ e ∷ es) ((e.0, v) ∷ es) (e ∷ insert_entry R es k v)))
      by Less p later = ((p, below_all o k e.0 (keys_of es) p s.0), s)
      by Equal p later = s
      by Greater p later =
          (all_keys-insert_entry (λ y. R e.0 y ≡ Less) es (o.antisymm e.0 k ∙ ap ordering_reverse p) s.0, later)

module _ {K X : Type 0} {R : K → K → Ordering} (o : IsTotalOrder R) where
  abbrev at : List (K × X) → K → Option X
  at es q = lookup (is_at (R q)) es

  -- at the first key stands its value
  pub at_head : (x : K × X) (xs : List (K × X)) → at (x ∷ xs) x.0 ≡ Some x.1
  at_head x xs = lookup_head (is_at (R x.0)) x xs (ap is_eq (tied_itself o x.0))

  -- the first key does not stand again
  pub past_head : (q : K) (x : K × X) (xs : List (K × X)) → IsStrictlySortedBy R (keys_of (x ∷ xs)) → is_eq (R q x.0) ≡ true → at xs q ≡ None
  past_head q x xs s t = lookup-none (is_at (R q)) xs (none_past_head (eq_by_cmp_equiv o) q x xs (IsDistinct-from_sorted R _ s) t)

  module _ (x y : K × X) (xs ys : List (K × X)) (s : IsStrictlySortedBy R (keys_of (x ∷ xs))) (t : IsStrictlySortedBy R (keys_of (y ∷ ys))) (h : (q : K) → at (x ∷ xs) q ≡ at (y ∷ ys) q) where
    by_heads : (r : Ordering) → R x.0 y.0 ≡ r → R x.0 y.0 ≡ Equal
    by_heads Less p = absurd (not_none x.1 (sym (at_head x xs) ∙ h x.0 ∙ lookup-none _ (y ∷ ys) (none_below_head o x.0 y ys t p)))
    by_heads Equal p = p
    by_heads Greater p =
        absurd (not_none y.1 (sym (at_head y ys) ∙ sym (h y.0) ∙ lookup-none _ (x ∷ xs) (none_below_head o y.0 x xs s (o.antisymm y.0 x.0 ∙ ap ordering_reverse p))))

    heads : R x.0 y.0 ≡ Equal
    heads = by_heads (R x.0 y.0) refl

    values : x.1 ≡ y.1
    values = ap (λ u. unwrap_or u x.1) (sym (at_head x xs) ∙ h x.0 ∙ lookup_head (is_at (R x.0)) y ys (ap is_eq heads))

    tails : (q : K) → at xs q ≡ at ys q
    tails q =
        ⊎_elim
        (λ b. past_head q x xs s b ∙ sym (past_head q y ys t (alike o x.0 y.0 q heads ∙ b)))
        (λ b. sym (lookup_tail (is_at (R q)) x xs b) ∙ h q ∙ lookup_tail (is_at (R q)) y ys (alike o x.0 y.0 q heads ∙ b))
        (cases_Bool (is_eq (R q x.0)))

  -- entries in key order with equal look-ups are equal, where keys that compare alike are one
  pub same_entries : CmpEqualImpliesEq R → (es fs : List (K × X)) → IsStrictlySortedBy R (keys_of es) → IsStrictlySortedBy R (keys_of fs)
      → ((q : K) → at es q ≡ at fs q) → es ≡ fs
  same_entries exact [] [] s t h = refl
  same_entries exact [] (y ∷ ys) s t h = absurd (not_none y.1 (sym (h y.0 ∙ at_head y ys)))
  same_entries exact (x ∷ xs) [] s t h = absurd (not_none x.1 (sym (at_head x xs) ∙ h x.0))
  same_entries exact (x ∷ xs) (y ∷ ys) s t h =
      let rest = same_entries exact xs ys (sorted_tail R x.0 (keys_of xs) s) (sorted_tail R y.0 (keys_of ys) t) (tails x y xs ys s t h) in
      λ i. (exact x.0 y.0 (heads x y xs ys s t h) i, values x y xs ys s t h i) ∷ rest i
