-- Two maps joined: what stands at each key, what a search finds first, and a map's two parts.
use Rattle.std.proofs.Common.{◌≡◌, Bool, true, false, cond, not, List, [], ◌∷◌, find, filter, Option, Some, None, IsSome, is_eq, is_lt, Ordering, Less, Equal, Greater, refl, sym, ap, subst, ◌∙◌, true≢false}
use Rattle.std.proofs.lemmas.Map.Keys.{sorted_head, sorted_tail}
use Rattle.std.specs.BTreeMap.{insert_entry, is_at}
use Rattle.std.specs.List.{AllByRecursion}
use Rattle.std.specs.Map.{keys_of, lookup}
use Rattle.std.specs.Option.{option_or}
use Rattle.std.specs.Ordering.{match_ordering, ordering_reverse}
use Rattle.var_types.proofs.Entries.{at_head, lookup-insert_entry, past_head, sorted-insert_entry}
use Rattle.var_types.proofs.Keys.{key_cmp_total}
use Rattle.var_types.proofs.Lowest.{not_lower}
use Rattle.var_types.proofs.Orders.{above_from_below, all_filter, below_all, same_itself}
use Rattle.var_types.specs.declared.key.Key.{Key}
use Rattle.var_types.specs.declared.variable.Variable.{Variable}
use Rattle.var_types.specs.Key.{key_cmp}
use Rattle.var_types.specs.TwoRegions.{AreApart, joined, lesser}
use Rattle.var_types.specs.TwoRegionsLaws.{AreOrdered}

-- what stands at a key
abbrev at : Key → List (Key × Variable) → Option Variable
at key es = lookup (is_at (key_cmp key)) es

-- the keys of entries are above a key
abbrev AreAbove : Key → List (Key × Variable) → Type 0
AreAbove k es = AllByRecursion (λ y. key_cmp k y ≡ Less) (keys_of es)

-- maps joined stand in key order
pub joined_ordered : (xs ys : List (Key × Variable)) → AreOrdered ys → AreOrdered (joined xs ys)
unfolding joined
joined_ordered [] ys s = s
joined_ordered (x ∷ xs) ys s = sorted-insert_entry key_cmp_total x.0 x.1 (joined xs ys) (joined_ordered xs ys s)

-- what stands at a key of maps joined
pub lookup-joined : (xs ys : List (Key × Variable)) (key : Key) → at key (joined xs ys) ≡ option_or (at key xs) (at key ys)
unfolding joined
lookup-joined [] ys key = refl
lookup-joined (x ∷ xs) ys key =
    lookup-insert_entry key_cmp_total x.0 x.1 (joined xs ys) key ∙ by (is_eq (key_cmp key x.0)) (lookup-joined xs ys key)
  where
    by : (b : Bool) → at key (joined xs ys) ≡ option_or (at key xs) (at key ys)
        → cond b (Some x.1) (at key (joined xs ys)) ≡ option_or (cond b (Some x.1) (at key xs)) (at key ys)
    by true h = refl
    by false h = h

-- what a search finds among entries above a key is above it
found_above : (test : Key × Variable → Bool) (k : Key) (es : List (Key × Variable)) → AreAbove k es → (f : Key × Variable) → find test es ≡ Some f
    → key_cmp k f.0 ≡ Less
found_above test k [] all f h = cc
found_above test k (e ∷ es) all f h = by (test e) h (found_above test k es all.1 f)
  where
    by : (b : Bool) → cond b (Some e) (find test es) ≡ Some f → (find test es ≡ Some f → key_cmp k f.0 ≡ Less) → key_cmp k f.0 ≡ Less
    by true h later = let same : e ≡ f = cc in ap (λ (x : Key × Variable). key_cmp k x.0) (sym same) ∙ all.0
    by false h later = later h

-- an entry is the lesser of it and one above it
lesser_first : (x f : Key × Variable) → key_cmp x.0 f.0 ≡ Less → lesser (Some x) (Some f) ≡ Some x
lesser_first x f h = ap (λ o. cond (is_lt o) (Some f) (Some x)) (above_from_below key_cmp_total x.0 f.0 h)

-- an entry is the lesser of it and what was found above it
lesser_found : (x : Key × Variable) (found : Option (Key × Variable)) → ((f : Key × Variable) → found ≡ Some f → key_cmp x.0 f.0 ≡ Less)
    → lesser (Some x) found ≡ Some x
lesser_found x None h = refl
lesser_found x (Some f) h = lesser_first x f (h f refl)

-- of an entry, one found above it and a third the least is of the first and the third
lesser_over : (x : Key × Variable) (f g : Option (Key × Variable)) → ((y : Key × Variable) → f ≡ Some y → key_cmp x.0 y.0 ≡ Less)
    → lesser (Some x) (lesser f g) ≡ lesser (Some x) g
lesser_over x None g h = refl
lesser_over x (Some f) None h = lesser_first x f (h f refl)
lesser_over x (Some f) (Some g) h = by (is_lt (key_cmp g.0 f.0)) refl
  where
    by : (b : Bool) → is_lt (key_cmp g.0 f.0) ≡ b → lesser (Some x) (cond b (Some g) (Some f)) ≡ cond (is_lt (key_cmp g.0 x.0)) (Some g) (Some x)
    by true e = refl
    by false e =
        let below : key_cmp x.0 f.0 ≡ Less = h f refl in
        lesser_first x f below
        ∙ sym (ap (λ b. cond b (Some g) (Some x)) (not_lower key_cmp_total x.0 f.0 g.0 (ap is_lt (above_from_below key_cmp_total x.0 f.0 below)) e))

-- what a search finds among entries in order with one more, at a key of its own
find-put : (test : Key × Variable → Bool) (k : Key) (v : Variable) (es : List (Key × Variable)) → AreOrdered es → at k es ≡ None
    → find test (insert_entry key_cmp es k v) ≡ lesser (cond (test (k, v)) (Some (k, v)) None) (find test es)
find-put test k v [] s n = by (test (k, v))
  where
    by : (b : Bool) → cond b (Some (k, v)) None ≡ lesser (cond b (Some (k, v)) None) None
    by true = refl
    by false = refl
find-put test k v (e ∷ es) s n =
    by (key_cmp k e.0) refl n (λ none. find-put test k v es (sorted_tail key_cmp e.0 (keys_of es) s) none)
  where
    first : (b : Bool) → AreAbove k (e ∷ es)
        → cond b (Some (k, v)) (find test (e ∷ es)) ≡ lesser (cond b (Some (k, v)) None) (find test (e ∷ es))
    first true all = sym (lesser_found (k, v) (find test (e ∷ es)) (found_above test k (e ∷ es) all))
    first false all = refl

    behind : (b c : Bool) → key_cmp e.0 k ≡ Less
        → find test (insert_entry key_cmp es k v) ≡ lesser (cond c (Some (k, v)) None) (find test es)
        → cond b (Some e) (find test (insert_entry key_cmp es k v)) ≡ lesser (cond c (Some (k, v)) None) (cond b (Some e) (find test es))
    behind true true h later = sym (ap (λ o. cond (is_lt o) (Some e) (Some (k, v))) h)
    behind true false h later = refl
    behind false c h later = later

    by : (o : Ordering) → key_cmp k e.0 ≡ o → cond (is_eq o) (Some e.1) (at k es) ≡ None
        → (at k es ≡ None → find test (insert_entry key_cmp es k v) ≡ lesser (cond (test (k, v)) (Some (k, v)) None) (find test es))
        → find test (match_ordering o ((k, v) ∷ e ∷ es) ((e.0, v) ∷ es) (e ∷ insert_entry key_cmp es k v))
        ≡ lesser (cond (test (k, v)) (Some (k, v)) None) (find test (e ∷ es))
    by Less h n later = first (test (k, v)) (h, below_all key_cmp_total k e.0 (keys_of es) h (sorted_head key_cmp e.0 (keys_of es) s))
    by Equal h n later = cc
    by Greater h n later = behind (test e) (test (k, v)) (below_from k e.0 h) (later n)
      where
        below_from : (a b : Key) → key_cmp a b ≡ Greater → key_cmp b a ≡ Less
        below_from a b h = key_cmp_total.antisymm b a ∙ ap ordering_reverse h

-- maps without the first entry of the first are apart
apart_tail : (x : Key × Variable) (xs ys : List (Key × Variable)) → AreApart (x ∷ xs) ys → AreApart xs ys
apart_tail x xs ys h = record { apart = λ key some. h.apart key (by key (is_eq (key_cmp key x.0)) some) }
  where
    by : (key : Key) (b : Bool) → IsSome (at key xs) → IsSome (cond b (Some x.1) (at key xs))
    by key true some = refl
    by key false some = some

-- what a search finds first in maps joined is the lesser of what it finds in each
pub find-joined : (test : Key × Variable → Bool) (xs ys : List (Key × Variable)) → AreOrdered xs → AreOrdered ys → AreApart xs ys
    → find test (joined xs ys) ≡ lesser (find test xs) (find test ys)
unfolding joined
find-joined test [] ys sx sy apart = refl
find-joined test (x ∷ xs) ys sx sy apart =
    find-put test x.0 x.1 (joined xs ys) (joined_ordered xs ys sy) none
    ∙ by (test x) (find-joined test xs ys (sorted_tail key_cmp x.0 (keys_of xs) sx) sy (apart_tail x xs ys apart))
  where
    here : IsSome (at x.0 (x ∷ xs))
    here = subst IsSome (sym (at_head key_cmp_total x xs)) refl

    none : at x.0 (joined xs ys) ≡ None
    none =
        lookup-joined xs ys x.0
        ∙ (λ i. option_or (past_head key_cmp_total x.0 x xs sx (ap is_eq (same_itself key_cmp_total x.0)) i) (apart.apart x.0 here i))

    by : (b : Bool) → find test (joined xs ys) ≡ lesser (find test xs) (find test ys)
        → lesser (cond b (Some x) None) (find test (joined xs ys)) ≡ lesser (cond b (Some x) (find test xs)) (find test ys)
    by true later =
        ap (lesser (Some x)) later
        ∙ lesser_over x (find test xs) (find test ys) (found_above test x.0 xs (sorted_head key_cmp x.0 (keys_of xs) sx))
    by false later = later

-- an entry goes before those above it
put_before : (e : Key × Variable) (es : List (Key × Variable)) → AreAbove e.0 es → insert_entry key_cmp es e.0 e.1 ≡ e ∷ es
put_before e [] all = refl
put_before e (f ∷ fs) all =
    ap (λ o. match_ordering o (e ∷ f ∷ fs) ((f.0, e.1) ∷ fs) (f ∷ insert_entry key_cmp fs e.0 e.1)) all.0

-- an entry of the second map that is below the first map is the first of both
joined_behind : (e : Key × Variable) (xs ys : List (Key × Variable)) → AreAbove e.0 xs → joined xs (e ∷ ys) ≡ e ∷ joined xs ys
unfolding joined
joined_behind e [] ys all = refl
joined_behind e (x ∷ xs) ys all =
    ap (λ es. insert_entry key_cmp es x.0 x.1) (joined_behind e xs ys all.1)
    ∙ ap (λ o. match_ordering o (x ∷ e ∷ joined xs ys) ((e.0, x.1) ∷ joined xs ys) (e ∷ insert_entry key_cmp (joined xs ys) x.0 x.1))
    (above_from_below key_cmp_total e.0 x.0 all.0)

module _ (test : Key × Variable → Bool) where
  -- the entries that don't pass
  abbrev others : List (Key × Variable) → List (Key × Variable)
  others es = filter (λ entry. not (test entry)) es

  -- a map's two parts joined are the map
  pub joined-parts : (es : List (Key × Variable)) → AreOrdered es → joined (filter test es) (others es) ≡ es
  unfolding joined
  joined-parts [] s = refl
  joined-parts (e ∷ es) s = by (test e) (joined-parts es (sorted_tail key_cmp e.0 (keys_of es) s))
    where
      above : AreAbove e.0 es
      above = sorted_head key_cmp e.0 (keys_of es) s

      by : (b : Bool) → joined (filter test es) (others es) ≡ es
          → joined (cond b (e ∷ filter test es) (filter test es)) (cond (not b) (e ∷ others es) (others es)) ≡ e ∷ es
      by true h = ap (λ rest. insert_entry key_cmp rest e.0 e.1) h ∙ put_before e es above
      by false h =
          joined_behind e (filter test es) (others es) (all_filter (λ y. key_cmp e.0 y ≡ Less) test es above) ∙ ap (λ rest. e ∷ rest) h

-- what doesn't stand in a map doesn't stand in a part of it
none_kept : (test : Key × Variable → Bool) (key : Key) (es : List (Key × Variable)) → at key es ≡ None → at key (filter test es) ≡ None
none_kept test key [] n = refl
none_kept test key (e ∷ es) n = by (is_eq (key_cmp key e.0)) refl n (test e) (none_kept test key es)
  where
    by : (c : Bool) → is_eq (key_cmp key e.0) ≡ c → cond c (Some e.1) (at key es) ≡ None → (b : Bool)
        → (at key es ≡ None → at key (filter test es) ≡ None) → at key (cond b (e ∷ filter test es) (filter test es)) ≡ None
    by true same n b later = cc
    by false same n true later = ap (λ c. cond c (Some e.1) (at key (filter test es))) same ∙ later n
    by false same n false later = later n

-- a map's two parts are apart
pub apart-parts : (test : Key × Variable → Bool) (es : List (Key × Variable)) → AreOrdered es
    → AreApart (filter test es) (filter (λ entry. not (test entry)) es)
apart-parts test es s = record { apart = λ key. by key es s }
  where
    by : (key : Key) (es : List (Key × Variable)) → AreOrdered es → IsSome (at key (filter test es)) → at key (others test es) ≡ None
    by key [] s some = refl
    by key (e ∷ es) s some =
        each (is_eq (key_cmp key e.0)) refl (test e) some (by key es (sorted_tail key_cmp e.0 (keys_of es) s))
      where
        past : is_eq (key_cmp key e.0) ≡ true → at key es ≡ None
        past same = past_head key_cmp_total key e es s same

        each : (c : Bool) → is_eq (key_cmp key e.0) ≡ c → (b : Bool) → IsSome (at key (cond b (e ∷ filter test es) (filter test es)))
            → (IsSome (at key (filter test es)) → at key (others test es) ≡ None)
            → at key (cond (not b) (e ∷ others test es) (others test es)) ≡ None
        each true same true some later = none_kept (λ entry. not (test entry)) key es (past same)
        each true same false some later = absurd (true≢false (sym (subst IsSome (none_kept test key es (past same)) some)))
        each false same true some later =
            later (subst IsSome (ap (λ c. cond c (Some e.1) (at key (filter test es))) same) some)
        each false same false some later =
            ap (λ c. cond c (Some e.1) (at key (others test es))) same ∙ later some
