-- The first key of entries that passes a test: after one more entry, and what stands there.
use Rattle.std.proofs.Common.{◌≡◌, Bool, true, false, cond, List, [], ◌∷◌, find, option_map, Option, Some, None, is_eq, is_lt, Ordering, Less, Equal, Greater, refl, sym, ap, ◌∙◌, true≢false}
use Rattle.std.proofs.lemmas.Cmp.{tied_itself}
use Rattle.std.proofs.lemmas.Map.Lookups.{CmpEqualImpliesEq}
use Rattle.std.specs.BTreeMap.{insert_entry, is_at}
use Rattle.std.specs.Cmp.{IsTotalOrder}
use Rattle.std.specs.Map.{lookup}
use Rattle.std.specs.Ordering.{match_ordering, ordering_reverse}
use Rattle.var_types.specs.Least.{lower}

module _ {K : Type 0} (R : K → K → Ordering) where
  -- a test that holds of a key holds of all keys above it
  abbrev pub HoldsUpward : (K → Bool) → Type 0
  HoldsUpward p = (x y : K) → p x ≡ true → R x y ≡ Less → p y ≡ true

module _ {K X : Type 0} (p : K → Bool) where
  -- the first key that passes
  abbrev pub first_key : List (K × X) → Option K
  first_key es = option_map (λ (e : K × X). e.0) (find (λ (e : K × X). p e.0) es)

  -- a found entry passes
  pub found_passes : (es : List (K × X)) (e : K × X) → find (λ (x : K × X). p x.0) es ≡ Some e → p e.0 ≡ true
  found_passes [] e h = cc
  found_passes (x ∷ xs) e h = by (p x.0) refl h (found_passes xs e)
    where
      by : (b : Bool) → p x.0 ≡ b → cond b (Some x) (find (λ (x : K × X). p x.0) xs) ≡ Some e
          → (find (λ (x : K × X). p x.0) xs ≡ Some e → p e.0 ≡ true) → p e.0 ≡ true
      by true t h later = let same : x ≡ e = cc in ap (λ (y : K × X). p y.0) (sym same) ∙ t
      by false t h later = later h

module _ {K X : Type 0} {R : K → K → Ordering} (o : IsTotalOrder R) (exact : CmpEqualImpliesEq R) (p : K → Bool) (up : HoldsUpward R p) (k : K) (v : X) where
  -- the key of an entry found at a first one that passes by c, or else behind it
  abbrev key_at : Bool → K × X → Option (K × X) → Option K
  key_at c e found = option_map (λ (x : K × X). x.0) (cond c (Some e) found)

  insert_below : (e : K × X) (found : Option (K × X)) (b c : Bool) → (b ≡ true → c ≡ true) → is_lt (R e.0 k) ≡ false
      → option_map (λ (x : K × X). x.0) (cond b (Some (k, v)) (cond c (Some e) found)) ≡ cond b (lower R (Some k) (key_at c e found)) (key_at c e found)
  insert_below e found true true h n = sym (ap (λ t. cond t (Some e.0) (Some k)) n)
  insert_below e found true false h n = absurd (true≢false (sym (h refl)))
  insert_below e found false c h n = refl

  insert_here : (e : K × X) (found : Option (K × X)) (b c : Bool) → b ≡ c → k ≡ e.0 → is_lt (R e.0 k) ≡ false
      → key_at c (e.0, v) found ≡ cond b (lower R (Some k) (key_at c e found)) (key_at c e found)
  insert_here e found true true h same n = ap Some (sym same) ∙ sym (ap (λ t. cond t (Some e.0) (Some k)) n)
  insert_here e found true false h same n = absurd (true≢false h)
  insert_here e found false true h same n = absurd (true≢false (sym h))
  insert_here e found false false h same n = refl

  insert_above : (e : K × X) (found more : Option (K × X)) (b c : Bool) → (c ≡ true → b ≡ true) → is_lt (R e.0 k) ≡ true
      → option_map (λ (x : K × X). x.0) more ≡ cond b (lower R (Some k) (option_map (λ (x : K × X). x.0) found)) (option_map (λ (x : K × X). x.0) found)
      → key_at c e more ≡ cond b (lower R (Some k) (key_at c e found)) (key_at c e found)
  insert_above e found more true true h n later = sym (ap (λ t. cond t (Some e.0) (Some k)) n)
  insert_above e found more false true h n later = absurd (true≢false (sym (h refl)))
  insert_above e found more b false h n later = later

  -- the first key that passes, after one more entry
  pub first_key-insert_entry : (es : List (K × X)) → first_key p (insert_entry R es k v) ≡ cond (p k) (lower R (Some k) (first_key p es)) (first_key p es)
  first_key-insert_entry [] = by (p k)
    where
      by : (b : Bool) → option_map (λ (e : K × X). e.0) (cond b (Some (k, v)) None) ≡ cond b (Some k) None
      by true = refl
      by false = refl
  first_key-insert_entry (e ∷ es) = by (R k e.0) refl (first_key-insert_entry es)
    where
      found : Option (K × X)
      found = find (λ (x : K × X). p x.0) es

      by : (r : Ordering) → R k e.0 ≡ r
          → first_key p (insert_entry R es k v) ≡ cond (p k) (lower R (Some k) (first_key p es)) (first_key p es)
          → first_key p (match_ordering r ((k, v) ∷ e ∷ es) ((e.0, v) ∷ es) (e ∷ insert_entry R es k v))
          ≡ cond (p k) (lower R (Some k) (first_key p (e ∷ es))) (first_key p (e ∷ es))
      by Less h later =
          insert_below e (find (λ (x : K × X). p x.0) es) (p k) (p e.0) (λ t. up k e.0 t h) (ap is_lt (o.antisymm e.0 k ∙ ap ordering_reverse h))
      by Equal h later =
          insert_here e (find (λ (x : K × X). p x.0) es) (p k) (p e.0) (ap p (exact k e.0 h)) (exact k e.0 h)
          (ap is_lt (o.antisymm e.0 k ∙ ap ordering_reverse h))
      by Greater h later =
          let below : R e.0 k ≡ Less = o.antisymm e.0 k ∙ ap ordering_reverse h in
          insert_above e (find (λ (x : K × X). p x.0) es) (find (λ (x : K × X). p x.0) (insert_entry R es k v)) (p k) (p e.0)
          (λ t. up e.0 k t below) (ap is_lt below) later

module _ {K : Type 0} {R : K → K → Ordering} (p : K → Bool) (up : HoldsUpward R p) where
  -- a found key is not below one that doesn't pass
  pub found_not_below : (k j : K) → p k ≡ true → p j ≡ false → is_lt (R k j) ≡ false
  found_not_below k j t n = by (R k j) refl
    where
      by : (r : Ordering) → R k j ≡ r → is_lt r ≡ false
      by Less h = absurd (true≢false (sym (up k j t h) ∙ n))
      by Equal h = refl
      by Greater h = refl

module _ {K X : Type 0} {R : K → K → Ordering} (o : IsTotalOrder R) (exact : CmpEqualImpliesEq R) (p : K → Bool) where
  -- at a found key stands the value found
  pub lookup_found : (es : List (K × X)) (e : K × X) → find (λ (x : K × X). p x.0) es ≡ Some e → lookup (is_at (R e.0)) es ≡ Some e.1
  lookup_found [] e h = cc
  lookup_found (x ∷ xs) e h = by (p x.0) refl h (lookup_found xs e)
    where
      apart : (r : Ordering) → R e.0 x.0 ≡ r → p e.0 ≡ true → p x.0 ≡ false → is_eq r ≡ false
      apart Less g t n = refl
      apart Equal g t n = absurd (true≢false (sym t ∙ ap p (exact e.0 x.0 g) ∙ n))
      apart Greater g t n = refl

      by : (b : Bool) → p x.0 ≡ b → cond b (Some x) (find (λ (x : K × X). p x.0) xs) ≡ Some e
          → (find (λ (x : K × X). p x.0) xs ≡ Some e → lookup (is_at (R e.0)) xs ≡ Some e.1)
          → cond (is_eq (R e.0 x.0)) (Some x.1) (lookup (is_at (R e.0)) xs) ≡ Some e.1
      by true t h later =
          let same : x ≡ e = cc in
          ap (λ b. cond b (Some x.1) (lookup (is_at (R e.0)) xs)) (ap (λ (y : K × X). is_eq (R e.0 y.0)) same ∙ ap is_eq (tied_itself o e.0))
          ∙ ap (λ (y : K × X). Some y.1) same
      by false n h later =
          ap (λ b. cond b (Some x.1) (lookup (is_at (R e.0)) xs)) (apart (R e.0 x.0) refl (found_passes p xs e h) n) ∙ later h
