-- Two policies have one namespace and one name exactly where their keys are one.
use Rattle.std.proofs.Common.{◌≡◌, ℕ, Bool, true, false, ◌&&◌, ◌||◌, cond, List, [], ◌∷◌, ◌++◌, length, Option, Some, None, Ok, Err, refl, sym, ap, subst, ◌∙◌, is_eq}
use Rattle.std.proofs.lemmas.Bool.{and_from, and_parts}
use Rattle.std.proofs.lemmas.Cmp.{eq_by_cmp_equiv, tied_itself}
use Rattle.std.proofs.lemmas.Map.Views.{tells_apart}
use Rattle.std.proofs.lemmas.Slice.Eq.{bytes_eq-Decides}
use Rattle.std.specs.BTreeMap.{is_at}
use Rattle.std.specs.List.{list_any}
use Rattle.std.specs.Prelude.{◌==◌, IfSome}
use Rattle.var_types.proofs.Keys.{key_cmp_total, same_key}
use Rattle.var_types.specs.declared.key.Key.{Key}
use Rattle.var_types.specs.declared.policy.Policy.{Policy}
use Rattle.var_types.specs.Key.{key_cmp}
use Rattle.var_types.specs.Name.{name_check}
use Rattle.var_types.specs.PolicyEntry.{CanSpell, IsNameOfUnits}
use Rattle.var_types.specs.PolicyStep.{is_same_entry, is_same_name}
use Rattle.policy_audit.specs.Names.{HoldsNames, policy_key, units_of}
use lib.Pointwise.{pointwise}

-- two tests that hold together
both_ways : (a b : Bool) → (a ≡ true → b ≡ true) → (b ≡ true → a ≡ true) → a ≡ b
both_ways true true f g = refl
both_ways true false f g = sym (f refl)
both_ways false true f g = g refl
both_ways false false f g = refl

-- a well-formed name has units
pub not_empty : IsNameOfUnits [] → ⊥
not_empty is = let h : name_check [] ≡ Ok tt = is.0 in cc

-- names of one list of units are one
same_names : (a b : Option (List ℕ)) → IfSome a IsNameOfUnits → IfSome b IsNameOfUnits → units_of a ≡ units_of b → is_same_name a b ≡ true
same_names None None x y same = refl
same_names None (Some v) x y same = absurd (not_empty (subst IsNameOfUnits (sym same) y))
same_names (Some u) None x y same = absurd (not_empty (subst IsNameOfUnits same x))
same_names (Some u) (Some v) x y same = (bytes_eq-Decides u v).1 same

same_units : (a b : Option (List ℕ)) → is_same_name a b ≡ true → units_of a ≡ units_of b
same_units None None h = refl
same_units None (Some v) h = cc
same_units (Some u) None h = cc
same_units (Some u) (Some v) h = (bytes_eq-Decides u v).0 h

-- policies that entries can spell have one namespace and one name exactly where their keys are one
same_entry_key : (p q : Policy) → CanSpell p → CanSpell q → is_at (key_cmp (policy_key p)) (policy_key q) ≡ is_same_entry p q
unfolding is_same_entry
same_entry_key p q x y =
    both_ways _ _
    (λ tied.
    let same : policy_key p ≡ policy_key q = tells_apart same_key (policy_key p) (policy_key q) tied in
    and_from _ _ ((bytes_eq-Decides p.namespace.bytes q.namespace.bytes).1 (ap (λ (k : Key). k.guid.bytes) same))
    (same_names p.name q.name x.name y.name (ap (λ (k : Key). k.name) same)))
    (λ same.
    let parts = and_parts (pointwise ◌==◌ p.namespace.bytes q.namespace.bytes) (is_same_name p.name q.name) same in
    let guids : p.namespace.bytes ≡ q.namespace.bytes = (bytes_eq-Decides p.namespace.bytes q.namespace.bytes).0 parts.0 in
    let names : units_of p.name ≡ units_of q.name = same_units p.name q.name parts.1 in
    let keys : policy_key p ≡ policy_key q = λ i. record { guid = record { bytes = guids i }; name = names i } in
    ap (λ (k : Key). is_at (key_cmp (policy_key p)) k) (sym keys) ∙ ap is_eq (tied_itself key_cmp_total (policy_key p)))

-- one more at the end
list_any-push : {X : Type 0} (p : X → Bool) (xs : List X) (x : X) → list_any p (xs ++ x ∷ []) ≡ (p x || list_any p xs)
list_any-push p [] x = refl
list_any-push p (y ∷ xs) x = ap (λ (b : Bool). p y || b) (list_any-push p xs x) ∙ swapped (p y) (p x) (list_any p xs)
  where
    swapped : (a b c : Bool) → (a || (b || c)) ≡ (b || (a || c))
    swapped true true c = refl
    swapped true false c = refl
    swapped false b c = refl

-- whether one is among them
pub is_held : (keys : List Key) (before : List Policy) (policy : Policy) → CanSpell policy → HoldsNames keys before
    → list_any (is_at (key_cmp (policy_key policy))) keys ≡ list_any (is_same_entry policy) before
unfolding HoldsNames
is_held keys before policy can h = h policy can

-- no policy has no key
pub holds_none : HoldsNames [] []
unfolding HoldsNames
holds_none = λ policy can. refl

-- one more policy is one more key
pub holds_more : (old new : List Key) (before : List Policy) (policy : Policy) → CanSpell policy
    → ((q : Key) → list_any (is_at (key_cmp q)) new ≡ cond (is_at (key_cmp (policy_key policy)) q) true (list_any (is_at (key_cmp q)) old))
    → HoldsNames old before → HoldsNames new (before ++ policy ∷ [])
unfolding HoldsNames
holds_more old new before policy can updates h = λ p spelled.
    updates (policy_key p)
    ∙ (λ i. cond (by p spelled i) true (h p spelled i))
    ∙ as_or (is_same_entry p policy) (list_any (is_same_entry p) before)
    ∙ sym (list_any-push (is_same_entry p) before policy)
  where
    as_or : (a b : Bool) → cond a true b ≡ (a || b)
    as_or true b = refl
    as_or false b = refl

    turned : (p : Policy) → is_at (key_cmp (policy_key policy)) (policy_key p) ≡ is_at (key_cmp (policy_key p)) (policy_key policy)
    turned p = (eq_by_cmp_equiv key_cmp_total).symm (policy_key policy) (policy_key p)

    by : (p : Policy) → CanSpell p → is_at (key_cmp (policy_key policy)) (policy_key p) ≡ is_same_entry p policy
    by p spelled = turned p ∙ same_entry_key p policy spelled can
