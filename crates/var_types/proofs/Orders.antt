-- Entries in strict key order: what stays in order as one goes or comes, and what a search finds among them.
use Rattle.std.proofs.Common.{◌≡◌, Bool, true, false, cond, List, [], ◌∷◌, ◌++◌, refl, ap, ◌∙◌}
use Rattle.std.proofs.lemmas.List.Elements.{All-from_recursion, recursion_from_All}
use Rattle.std.proofs.lemmas.Map.Keys.{sorted_head, sorted_tail}
use Rattle.std.proofs.lemmas.Map.Views.{All-keys-insert_entry, All-map-remove_entry}
use Rattle.std.specs.BTreeMap.{insert_entry, is_at}
use Rattle.std.specs.Cmp.{IsTotalOrder}
use Rattle.std.specs.List.{AllByRecursion, filter, find}
use Rattle.std.specs.List.Sorted.{IsStrictlySortedBy}
use Rattle.std.specs.Map.{keys_of, lookup, remove_entry}
use Rattle.std.specs.Ordering.{is_eq, is_lt, match_ordering, ordering_reverse}
use Rattle.std.specs.Prelude.{Option, Some, None}
use Rattle.std.specs.declared.cmp.Ordering.{Ordering}
use Rattle.std.specs.declared.cmp.Ordering.TheVariants.{Less, Equal, Greater}

-- the first element, if there is one
abbrev pub first_of : {X : Type 0} → List X → Option X
first_of [] = None
first_of (x ∷ xs) = Some x

-- what holds of each key holds of one in the middle
pub all_seam : {K X : Type 0} (P : K → Type 0) (pre : List (K × X)) (e : K × X) (rest : List (K × X))
    → AllByRecursion P (keys_of (pre ++ e ∷ rest)) → P e.0
all_seam P [] e rest all = all.0
all_seam P (p ∷ pre) e rest all = all_seam P pre e rest all.1

-- what holds of each key holds of those behind some
pub all_behind : {K X : Type 0} (P : K → Type 0) (pre rest : List (K × X)) → AllByRecursion P (keys_of (pre ++ rest)) → AllByRecursion P (keys_of rest)
all_behind P [] rest all = all
all_behind P (p ∷ pre) rest all = all_behind P pre rest all.1

module _ {K X : Type 0} (P : K → Type 0) where
  -- one entry more, which a filter may keep
  all_filter_case : (e : K × X) (kept : List (K × X)) (b : Bool) → P e.0 → AllByRecursion P (keys_of kept)
      → AllByRecursion P (keys_of (cond b (e ∷ kept) kept))
  all_filter_case e kept true here all = (here, all)
  all_filter_case e kept false here all = all

  -- what holds of each key holds of those that a filter keeps
  pub all_filter : (p : K × X → Bool) (es : List (K × X)) → AllByRecursion P (keys_of es) → AllByRecursion P (keys_of (filter p es))
  all_filter p [] all = tt
  all_filter p (e ∷ es) all = all_filter_case e (filter p es) (p e) all.0 (all_filter p es all.1)

module _ {K : Type 0} (R : K → K → Ordering) where
  -- a key that is below the others goes before them
  sorted_cons : (k : K) (ks : List K) → AllByRecursion (λ y. R k y ≡ Less) ks → IsStrictlySortedBy R ks → IsStrictlySortedBy R (k ∷ ks)
  unfolding IsStrictlySortedBy
  sorted_cons k ks below sorted = (below, sorted)

  module _ {X : Type 0} where
    -- one entry more, which is kept or not
    sorted_case : (e : K × X) (kept : List (K × X)) (b : Bool) → AllByRecursion (λ y. R e.0 y ≡ Less) (keys_of kept)
        → IsStrictlySortedBy R (keys_of kept) → IsStrictlySortedBy R (keys_of (cond b (e ∷ kept) kept))
    sorted_case e kept true below sorted = sorted_cons e.0 (keys_of kept) below sorted
    sorted_case e kept false below sorted = sorted

    -- the entries that a filter keeps stand in order
    pub sorted-filter : (p : K × X → Bool) (es : List (K × X)) → IsStrictlySortedBy R (keys_of es) → IsStrictlySortedBy R (keys_of (filter p es))
    sorted-filter p [] sorted = sorted
    sorted-filter p (e ∷ es) sorted =
        sorted_case e (filter p es) (p e) (all_filter (λ y. R e.0 y ≡ Less) p es (sorted_head R e.0 (keys_of es) sorted))
        (sorted-filter p es (sorted_tail R e.0 (keys_of es) sorted))

    -- one entry more, which is removed or not
    remove_case : (e : K × X) (es rest : List (K × X)) (b : Bool) → AllByRecursion (λ y. R e.0 y ≡ Less) (keys_of rest)
        → IsStrictlySortedBy R (keys_of es) → IsStrictlySortedBy R (keys_of rest) → IsStrictlySortedBy R (keys_of (cond b es (e ∷ rest)))
    remove_case e es rest true below all sorted = all
    remove_case e es rest false below all sorted = sorted_cons e.0 (keys_of rest) below sorted

    -- the entries but one stand in order
    pub sorted-remove_entry : (test : K → Bool) (es : List (K × X)) → IsStrictlySortedBy R (keys_of es)
        → IsStrictlySortedBy R (keys_of (remove_entry test es))
    sorted-remove_entry test [] sorted = sorted
    sorted-remove_entry test (e ∷ es) sorted =
        let P : K → Type 0 = λ y. R e.0 y ≡ Less in
        let below : AllByRecursion P (keys_of es) = sorted_head R e.0 (keys_of es) sorted in
        remove_case e es (remove_entry test es) (test e.0)
        (recursion_from_All P (keys_of (remove_entry test es)) (All-map-remove_entry test (λ e. e.0) P es (All-from_recursion P (keys_of es) below)))
        (sorted_tail R e.0 (keys_of es) sorted) (sorted-remove_entry test es (sorted_tail R e.0 (keys_of es) sorted))

-- what equals its reverse is Equal
same_from_reverse : (o : Ordering) → o ≡ ordering_reverse o → o ≡ Equal
same_from_reverse Less h = cc
same_from_reverse Equal h = refl
same_from_reverse Greater h = cc

module _ {K : Type 0} {R : K → K → Ordering} (total : IsTotalOrder R) where
  -- a key compares alike to itself
  pub same_itself : (k : K) → R k k ≡ Equal
  same_itself k = same_from_reverse (R k k) (total.antisymm k k)

  -- the two ways of a comparison
  pub above_from_below : (a b : K) → R a b ≡ Less → R b a ≡ Greater
  above_from_below a b h = total.antisymm b a ∙ ap ordering_reverse h

  below_from_above : (a b : K) → R a b ≡ Greater → R b a ≡ Less
  below_from_above a b h = total.antisymm b a ∙ ap ordering_reverse h

  -- what is below the first is below the others
  pub below_all : (k e : K) (ks : List K) → R k e ≡ Less → AllByRecursion (λ y. R e y ≡ Less) ks → AllByRecursion (λ y. R k y ≡ Less) ks
  below_all k e [] h all = tt
  below_all k e (y ∷ ys) h all = (total.trans k e y h all.0, below_all k e ys h all.1)

  module _ {X : Type 0} where
    -- one entry more, which comes after the new one, has its key, or comes before it
    insert_case : (k : K) (v : X) (e : K × X) (es put : List (K × X)) (o : Ordering) → R k e.0 ≡ o → IsStrictlySortedBy R (keys_of (e ∷ es))
        → (R e.0 k ≡ Less → AllByRecursion (λ y. R e.0 y ≡ Less) (keys_of put)) → IsStrictlySortedBy R (keys_of put)
        → IsStrictlySortedBy R (keys_of (match_ordering o ((k, v) ∷ e ∷ es) ((e.0, v) ∷ es) (e ∷ put)))
    insert_case k v e es put Less h sorted below rest =
        sorted_cons R k (keys_of (e ∷ es)) (h, below_all k e.0 (keys_of es) h (sorted_head R e.0 (keys_of es) sorted)) sorted
    insert_case k v e es put Equal h sorted below rest = sorted
    insert_case k v e es put Greater h sorted below rest =
        sorted_cons R e.0 (keys_of put) (below (below_from_above k e.0 h)) rest

    -- the entries with one put at its key stand in order
    pub sorted-insert_entry : (k : K) (v : X) (es : List (K × X)) → IsStrictlySortedBy R (keys_of es)
        → IsStrictlySortedBy R (keys_of (insert_entry R es k v))
    sorted-insert_entry k v [] sorted = sorted_cons R k [] tt sorted
    sorted-insert_entry k v (e ∷ es) sorted =
        let P : K → Type 0 = λ y. R e.0 y ≡ Less in
        let below : AllByRecursion P (keys_of es) = sorted_head R e.0 (keys_of es) sorted in
        insert_case k v e es (insert_entry R es k v) (R k e.0) refl sorted
        (λ first. recursion_from_All P (keys_of (insert_entry R es k v)) (All-keys-insert_entry R k v P es (All-from_recursion P (keys_of es) below) first))
        (sorted-insert_entry k v es (sorted_tail R e.0 (keys_of es) sorted))

    -- where each key is above a bound, a search above it finds the first entry
    find-all_above : (k : K) (es : List (K × X)) → AllByRecursion (λ y. R k y ≡ Less) (keys_of es) → find (λ x. is_lt (R k x.0)) es ≡ first_of es
    find-all_above k [] all = refl
    find-all_above k (e ∷ es) all = ap (λ o. cond (is_lt o) (Some e) (find (λ x. is_lt (R k x.0)) es)) all.0

    -- a search above an entry's key finds the entry behind it
    pub find-behind : (pre : List (K × X)) (e : K × X) (rest : List (K × X)) → IsStrictlySortedBy R (keys_of (pre ++ e ∷ rest))
        → find (λ x. is_lt (R e.0 x.0)) (pre ++ e ∷ rest) ≡ first_of rest
    find-behind [] e rest sorted =
        ap (λ o. cond (is_lt o) (Some e) (find (λ x. is_lt (R e.0 x.0)) rest)) (same_itself e.0)
        ∙ find-all_above e.0 rest (sorted_head R e.0 (keys_of rest) sorted)
    find-behind (p ∷ pre) e rest sorted =
        let after = keys_of (pre ++ e ∷ rest) in
        let below : R p.0 e.0 ≡ Less = all_seam (λ y. R p.0 y ≡ Less) pre e rest (sorted_head R p.0 after sorted) in
        ap (λ o. cond (is_lt o) (Some p) (find (λ x. is_lt (R e.0 x.0)) (pre ++ e ∷ rest))) (above_from_below p.0 e.0 below)
        ∙ find-behind pre e rest (sorted_tail R p.0 after sorted)

    -- a look-up at an entry's key finds its value
    pub lookup-seam : (pre : List (K × X)) (e : K × X) (rest : List (K × X)) → IsStrictlySortedBy R (keys_of (pre ++ e ∷ rest))
        → lookup (is_at (R e.0)) (pre ++ e ∷ rest) ≡ Some e.1
    lookup-seam [] e rest sorted = ap (λ o. cond (is_eq o) (Some e.1) (lookup (is_at (R e.0)) rest)) (same_itself e.0)
    lookup-seam (p ∷ pre) e rest sorted =
        let after = keys_of (pre ++ e ∷ rest) in
        let below : R p.0 e.0 ≡ Less = all_seam (λ y. R p.0 y ≡ Less) pre e rest (sorted_head R p.0 after sorted) in
        ap (λ o. cond (is_eq o) (Some p.1) (lookup (is_at (R e.0)) (pre ++ e ∷ rest))) (above_from_below p.0 e.0 below)
        ∙ lookup-seam pre e rest (sorted_tail R p.0 after sorted)
