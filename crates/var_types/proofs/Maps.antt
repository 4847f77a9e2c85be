-- The map of live records: it has strict key order, and at each key the variable of the record that counts for it.
use Rattle.std.proofs.Common.{◌≡◌, Bool, true, false, cond, ◌||◌, List, [], ◌∷◌, Option, Some, None, refl, sym, ap, ◌∙◌}
use Rattle.std.specs.BTreeMap.{is_at}
use Rattle.std.specs.List.{list_any}
use Rattle.std.specs.List.Sorted.{IsStrictlySortedBy}
use Rattle.std.specs.Map.{keys_of, lookup}
use Rattle.std.specs.Cmp.{Equal-is}
use Rattle.var_types.proofs.Entries.{lookup-insert_entry, same_entries, sorted-insert_entry}
use Rattle.var_types.proofs.Keys.{key_cmp_total, same_key}
use Rattle.var_types.proofs.Chosen.{chosen-none}
use Rattle.var_types.specs.Chosen.{chosen, is_of, variable_of}
use Rattle.var_types.specs.Key.{key_cmp}
use Rattle.var_types.specs.Live.{Live}
use Rattle.var_types.specs.Region.{Region, region_lives, entries_in, map_of, region_map, with_variable}
use Rattle.var_types.specs.declared.key.Key.{Key}
use Rattle.var_types.specs.declared.variable.Variable.{Variable}

-- entries are the map of live records
pub record IsMapOf (ls : List Live) (es : List (Key × Variable)) : Type 0 where
  pub ordered : IsStrictlySortedBy key_cmp (keys_of es)
  pub holds : (key : Key) → lookup (is_at (key_cmp key)) es ≡ variable_of (chosen key ls)

-- the keys of some live records stand in order
entries_ordered : (all ls : List Live) → IsStrictlySortedBy key_cmp (keys_of (entries_in all ls))
unfolding IsStrictlySortedBy
entries_ordered all [] = tt
entries_ordered all (live ∷ ls) = by (chosen live.key all) (entries_ordered all ls)
  where
    by : (found : Option Live) → IsStrictlySortedBy key_cmp (keys_of (entries_in all ls))
        → IsStrictlySortedBy key_cmp (keys_of (with_variable live.key found (entries_in all ls)))
    by None s = s
    by (Some l) s = sorted-insert_entry key_cmp_total live.key l.variable (entries_in all ls) s

-- at each key of some live records stands the variable that counts among all
entries_hold : (all ls : List Live) (key : Key)
    → lookup (is_at (key_cmp key)) (entries_in all ls) ≡ cond (list_any (is_of key) ls) (variable_of (chosen key all)) None
entries_hold all [] key = refl
entries_hold all (live ∷ ls) key = by (chosen live.key all) refl (is_of key live) refl (entries_hold all ls key)
  where
    here : is_of key live ≡ true → key ≡ live.key
    here t = same_key key live.key ((Equal-is (key_cmp key live.key)).0 t)

    both : (b : Bool) (o : Option Variable) → o ≡ None → cond b o None ≡ None
    both true o e = e
    both false o e = refl

    by : (found : Option Live) → chosen live.key all ≡ found → (mine : Bool) → is_of key live ≡ mine
        → lookup (is_at (key_cmp key)) (entries_in all ls) ≡ cond (list_any (is_of key) ls) (variable_of (chosen key all)) None
        → lookup (is_at (key_cmp key)) (with_variable live.key found (entries_in all ls))
        ≡ cond (mine || list_any (is_of key) ls) (variable_of (chosen key all)) None
    by None e true t rest =
        let none : variable_of (chosen key all) ≡ None = ap variable_of (ap (λ k. chosen k all) (here t) ∙ e) in
        rest ∙ both (list_any (is_of key) ls) (variable_of (chosen key all)) none ∙ sym none
    by None e false t rest = rest
    by (Some l) e true t rest =
        lookup-insert_entry key_cmp_total live.key l.variable (entries_in all ls) key
        ∙ ap (λ b. cond b (Some l.variable) (lookup (is_at (key_cmp key)) (entries_in all ls))) t
        ∙ sym (ap variable_of (ap (λ k. chosen k all) (here t) ∙ e))
    by (Some l) e false t rest =
        lookup-insert_entry key_cmp_total live.key l.variable (entries_in all ls) key
        ∙ ap (λ b. cond b (Some l.variable) (lookup (is_at (key_cmp key)) (entries_in all ls))) t
        ∙ rest

-- the map of live records is theirs
pub map_exact : (ls : List Live) → IsMapOf ls (map_of ls)
unfolding map_of
map_exact ls = record { ordered = entries_ordered ls ls; holds = λ key. entries_hold ls ls key ∙ by key (list_any (is_of key) ls) refl }
  where
    by : (key : Key) (some : Bool) → list_any (is_of key) ls ≡ some → cond some (variable_of (chosen key ls)) None ≡ variable_of (chosen key ls)
    by key true e = refl
    by key false e = sym (ap variable_of (chosen-none key ls e))

-- live records have one map
pub one_map : (ls : List Live) (es fs : List (Key × Variable)) → IsMapOf ls es → IsMapOf ls fs → es ≡ fs
one_map ls es fs p q = same_entries key_cmp_total same_key es fs p.ordered q.ordered (λ key. p.holds key ∙ sym (q.holds key))

-- live records of which the same variable counts for each key have the same map
pub same_map : (ls ms : List Live) → ((key : Key) → variable_of (chosen key ls) ≡ variable_of (chosen key ms)) → map_of ls ≡ map_of ms
same_map ls ms h =
    let p = map_exact ls in
    let q = map_exact ms in
    same_entries key_cmp_total same_key (map_of ls) (map_of ms) p.ordered q.ordered (λ key. p.holds key ∙ h key ∙ sym (q.holds key))

-- regions in which the same variable counts for each key have the same map
pub same_region_map : (a b : Region) → ((key : Key) → variable_of (chosen key (region_lives a)) ≡ variable_of (chosen key (region_lives b))) → region_map a ≡ region_map b
unfolding region_map
same_region_map a b h = same_map (region_lives a) (region_lives b) h
