-- How entries that a test of their variables picks go with all entries.
use Rattle.std.proofs.Common.{◌≡◌, Bool, true, false, cond, List, filter, Option, Some, None, is_eq, refl, sym, ap, ◌∙◌}
use Rattle.std.proofs.lemmas.Cmp.{eq_by_cmp_equiv}
use Rattle.std.proofs.lemmas.Map.{lookup-remove_entry}
use Rattle.std.proofs.lemmas.Map.Entries.{lookup-filter-values, option_filter}
use Rattle.std.proofs.lemmas.Map.Keys.{IsDistinct-from_sorted}
use Rattle.std.specs.BTreeMap.{insert_entry, is_at}
use Rattle.std.specs.Cmp.{Equal-is}
use Rattle.std.specs.Map.{keys_of, lookup, remove_entry}
use Rattle.var_types.proofs.Entries.{lookup-insert_entry, same_entries, sorted-insert_entry}
use Rattle.var_types.proofs.Keys.{key_cmp_total, same_key}
use Rattle.var_types.proofs.Orders.{sorted-filter, sorted-remove_entry}
use Rattle.var_types.specs.declared.key.Key.{Key}
use Rattle.var_types.specs.declared.variable.Variable.{Variable}
use Rattle.var_types.specs.Key.{key_cmp}
use Rattle.var_types.specs.TwoRegionsLaws.{AreOrdered}

-- what stands at a key
abbrev at : Key → List (Key × Variable) → Option Variable
at key es = lookup (is_at (key_cmp key)) es

-- entries without that of a key
abbrev without : Key → List (Key × Variable) → List (Key × Variable)
without key es = remove_entry (is_at (key_cmp key)) es

-- what stands at a key of entries without that of another
pub at_without : (key : Key) (es : List (Key × Variable)) → AreOrdered es → (q : Key)
    → at q (without key es) ≡ cond (is_eq (key_cmp key q)) None (at q es)
at_without key es ordered q =
    let laws = eq_by_cmp_equiv key_cmp_total in
    lookup-remove_entry laws (is_at (key_cmp key)) (λ x y t. laws.congr key x y t) q es (IsDistinct-from_sorted key_cmp (keys_of es) ordered)

module _ (test : Variable → Bool) where
  -- the entries that are picked
  abbrev pub picked : List (Key × Variable) → List (Key × Variable)
  picked es = filter (λ entry. test entry.1) es

  -- they stand in order
  pub picked_ordered : (es : List (Key × Variable)) → AreOrdered es → AreOrdered (picked es)
  picked_ordered es ordered = sorted-filter key_cmp (λ entry. test entry.1) es ordered

  -- what stands at a key of them
  pub at_picked : (es : List (Key × Variable)) → AreOrdered es → (q : Key) → at q (picked es) ≡ option_filter test (at q es)
  at_picked es ordered q =
      lookup-filter-values (eq_by_cmp_equiv key_cmp_total) test q es (IsDistinct-from_sorted key_cmp (keys_of es) ordered)

  module _ (key : Key) (es : List (Key × Variable)) (ordered : AreOrdered es) where
    -- a variable that is picked is put among those picked
    pub picked_put : (v : Variable) → test v ≡ true → picked (insert_entry key_cmp es key v) ≡ insert_entry key_cmp (picked es) key v
    picked_put v passes =
        let new = sorted-insert_entry key_cmp_total key v es ordered in
        same_entries key_cmp_total same_key (picked (insert_entry key_cmp es key v)) (insert_entry key_cmp (picked es) key v)
        (picked_ordered (insert_entry key_cmp es key v) new)
        (sorted-insert_entry key_cmp_total key v (picked es) (picked_ordered es ordered))
        (λ q.
        at_picked (insert_entry key_cmp es key v) new q
        ∙ ap (option_filter test) (lookup-insert_entry key_cmp_total key v es q)
        ∙ by (is_eq (key_cmp q key)) q
        ∙ sym (lookup-insert_entry key_cmp_total key v (picked es) q))
      where
        by : (b : Bool) (q : Key) → option_filter test (cond b (Some v) (at q es)) ≡ cond b (Some v) (at q (picked es))
        by true q = ap (λ p. cond p (Some v) None) passes
        by false q = sym (at_picked es ordered q)

    -- where nothing is picked at a key, a variable that isn't picked is put there, and those picked stay
    pub picked_put_other : (v : Variable) → test v ≡ false → option_filter test (at key es) ≡ None
        → picked (insert_entry key_cmp es key v) ≡ picked es
    picked_put_other v fails none =
        let new = sorted-insert_entry key_cmp_total key v es ordered in
        same_entries key_cmp_total same_key (picked (insert_entry key_cmp es key v)) (picked es)
        (picked_ordered (insert_entry key_cmp es key v) new) (picked_ordered es ordered)
        (λ q.
        at_picked (insert_entry key_cmp es key v) new q
        ∙ ap (option_filter test) (lookup-insert_entry key_cmp_total key v es q)
        ∙ by (is_eq (key_cmp q key)) q refl
        ∙ sym (at_picked es ordered q))
      where
        by : (b : Bool) (q : Key) → is_eq (key_cmp q key) ≡ b → option_filter test (cond b (Some v) (at q es)) ≡ option_filter test (at q es)
        by true q same =
            let alike : q ≡ key = same_key q key ((Equal-is (key_cmp q key)).0 same) in
            ap (λ p. cond p (Some v) None) fails ∙ sym none ∙ ap (λ k. option_filter test (at k es)) (sym alike)
        by false q same = refl

    -- the entry of a key goes from those picked
    pub picked_removed : picked (without key es) ≡ without key (picked es)
    picked_removed =
        let rest = sorted-remove_entry key_cmp (is_at (key_cmp key)) es ordered in
        same_entries key_cmp_total same_key (picked (without key es)) (without key (picked es)) (picked_ordered (without key es) rest)
        (sorted-remove_entry key_cmp (is_at (key_cmp key)) (picked es) (picked_ordered es ordered))
        (λ q.
        at_picked (without key es) rest q
        ∙ ap (option_filter test) (at_without key es ordered q)
        ∙ by (is_eq (key_cmp key q)) q
        ∙ sym (at_without key (picked es) (picked_ordered es ordered) q))
      where
        by : (b : Bool) (q : Key) → option_filter test (cond b None (at q es)) ≡ cond b None (at q (picked es))
        by true q = refl
        by false q = sym (at_picked es ordered q)

    -- where nothing is picked at a key, those picked stay without its entry
    pub picked_removed_other : option_filter test (at key es) ≡ None → picked (without key es) ≡ picked es
    picked_removed_other none =
        let rest = sorted-remove_entry key_cmp (is_at (key_cmp key)) es ordered in
        same_entries key_cmp_total same_key (picked (without key es)) (picked es) (picked_ordered (without key es) rest) (picked_ordered es ordered)
        (λ q.
        at_picked (without key es) rest q
        ∙ ap (option_filter test) (at_without key es ordered q)
        ∙ by (is_eq (key_cmp key q)) q refl
        ∙ sym (at_picked es ordered q))
      where
        by : (b : Bool) (q : Key) → is_eq (key_cmp key q) ≡ b → option_filter test (cond b None (at q es)) ≡ option_filter test (at q es)
        by true q same =
            let alike : key ≡ q = same_key key q ((Equal-is (key_cmp key q)).0 same) in
            sym none ∙ ap (λ k. option_filter test (at k es)) alike
        by false q same = refl
