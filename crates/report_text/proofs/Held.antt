-- The records held after a pass over live records are those that count, by key.
use Rattle.std.proofs.Common.{◌≡◌, Bool, true, false, cond, List, [], ◌∷◌, map, option_map, Option, Some, refl, sym, subst, ap, ◌∙◌}
use Rattle.std.proofs.lemmas.Map.Made.{keys_of-map_values, lookup-map_values}
use Rattle.std.specs.BTreeMap.{insert_entry, is_at}
use Rattle.std.specs.Cmp.{Equal-is}
use Rattle.std.specs.declared.cmp.Ordering.{Ordering}
use Rattle.std.specs.declared.cmp.Ordering.TheVariants.{Less, Equal, Greater}
use Rattle.std.specs.List.{fold}
use Rattle.std.specs.List.Sorted.{IsStrictlySortedBy}
use Rattle.std.specs.Map.{keys_of, lookup}
use Rattle.std.specs.Ordering.{match_ordering}
use Rattle.var_types.proofs.Chosen.{chosen_in_one_pass}
use Rattle.var_types.proofs.Entries.{lookup-insert_entry, sorted-insert_entry}
use Rattle.var_types.proofs.Keys.{key_cmp_total, same_key}
use Rattle.var_types.proofs.Maps.{map_exact, one_map}
use Rattle.var_types.specs.Chosen.{chosen_after, chosen_from, counting, is_of, variable_of}
use Rattle.var_types.specs.declared.key.Key.{Key}
use Rattle.var_types.specs.declared.variable.Variable.{Variable}
use Rattle.var_types.specs.Key.{key_cmp}
use Rattle.var_types.specs.Live.{Live}
use Rattle.var_types.specs.Region.{Region, map_of, region_lives, region_map}
use Rattle.var_region.specs.declared.found.Found.{Found}
use Rattle.var_region.specs.Found.{seen}
use Rattle.report_text.specs.Held.{entry_of, held_after, held_entry}

-- values that are mapped before or after an entry is put are the same
map_values-insert_entry : {K X Y : Type 0} (R : K → K → Ordering) (g : X → Y) (es : List (K × X)) (k : K) (v : X)
    → map (λ e. (e.0, g e.1)) (insert_entry R es k v) ≡ insert_entry R (map (λ e. (e.0, g e.1)) es) k (g v)
map_values-insert_entry R g [] k v = refl
map_values-insert_entry R g (e ∷ es) k v = by (R k e.0) (map_values-insert_entry R g es k v)
  where
    by : (r : Ordering) → map (λ e. (e.0, g e.1)) (insert_entry R es k v) ≡ insert_entry R (map (λ e. (e.0, g e.1)) es) k (g v)
        → map (λ e. (e.0, g e.1)) (match_ordering r ((k, v) ∷ e ∷ es) ((e.0, v) ∷ es) (e ∷ insert_entry R es k v))
        ≡ match_ordering r ((k, g v) ∷ (e.0, g e.1) ∷ map (λ e. (e.0, g e.1)) es) ((e.0, g v) ∷ map (λ e. (e.0, g e.1)) es)
        ((e.0, g e.1) ∷ insert_entry R (map (λ e. (e.0, g e.1)) es) k (g v))
    by Less later = refl
    by Equal later = refl
    by Greater later = ap (λ rest. (e.0, g e.1) ∷ rest) later

-- the records held for each key after some more live records
abbrev pub held_from : List (Key × Live) → List Live → List (Key × Live)
held_from held ls = fold held_after held ls

-- what is held for a key after one record more is what a search for it holds
lookup-held_after : (key : Key) (held : List (Key × Live)) (live : Live)
    → lookup (is_at (key_cmp key)) (held_after held live) ≡ chosen_after key (lookup (is_at (key_cmp key)) held) live
lookup-held_after key held live =
    lookup-insert_entry key_cmp_total live.key (counting (at live.key) live) held key ∙ by (is_of key live) refl
  where
    at : Key → Option Live
    at q = lookup (is_at (key_cmp q)) held

    by : (mine : Bool) → is_of key live ≡ mine → cond mine (Some (counting (at live.key) live)) (at key) ≡ cond mine (Some (counting (at key) live)) (at key)
    by true t = ap (λ q. Some (counting (at q) live)) (sym (same_key key live.key ((Equal-is (key_cmp key live.key)).0 t)))
    by false t = refl

-- what is held for a key after a pass over live records is what a search for it finds
lookup-held_from : (key : Key) (held : List (Key × Live)) (ls : List Live)
    → lookup (is_at (key_cmp key)) (held_from held ls) ≡ chosen_from key (lookup (is_at (key_cmp key)) held) ls
lookup-held_from key held [] = refl
lookup-held_from key held (live ∷ ls) =
    lookup-held_from key (held_after held live) ls ∙ ap (λ next. chosen_from key next ls) (lookup-held_after key held live)

-- the keys of the records held stand in order
ordered_held_from : (held : List (Key × Live)) (ls : List Live) → IsStrictlySortedBy key_cmp (keys_of held)
    → IsStrictlySortedBy key_cmp (keys_of (held_from held ls))
ordered_held_from held [] s = s
ordered_held_from held (live ∷ ls) s =
    ordered_held_from (held_after held live) ls
    (sorted-insert_entry key_cmp_total live.key (counting (lookup (is_at (key_cmp live.key)) held) live) held s)

-- the variable of a live record
abbrev variable_in : Live → Variable
variable_in live = live.variable

-- the variables of the records held after a pass are the map of the live records
held_map : (ls : List Live) → map (λ e. (e.0, variable_in e.1)) (held_from [] ls) ≡ map_of ls
unfolding IsStrictlySortedBy
held_map ls =
    one_map ls (map (λ e. (e.0, variable_in e.1)) (held_from [] ls)) (map_of ls)
    (record {
      ordered = subst (IsStrictlySortedBy key_cmp) (sym (keys_of-map_values variable_in (held_from [] ls))) (ordered_held_from [] ls tt);
      holds = λ key.
          lookup-map_values variable_in (is_at (key_cmp key)) (held_from [] ls)
          ∙ ap variable_of (lookup-held_from key [] ls ∙ chosen_in_one_pass key ls);
    })
    (map_exact ls)

-- the variables of what is held are those of the live records held
entries_held : (es : List (Key × Found)) → map entry_of es ≡ map (λ e. (e.0, variable_in e.1)) (map held_entry es)
entries_held [] = refl
entries_held (e ∷ es) = ap (λ rest. entry_of e ∷ rest) (entries_held es)

-- the variables of what is held after a pass over a region's live records are its map
pub held_region : (region : Region) (es : List (Key × Found)) → map held_entry es ≡ held_from [] (region_lives region) → map entry_of es ≡ region_map region
unfolding region_map
held_region region es h = entries_held es ∙ ap (map (λ e. (e.0, variable_in e.1))) h ∙ held_map (region_lives region)

-- the record that counts for a key so far is held, seen as a live record
pub held_after-put : (es : List (Key × Found)) (key : Key) (found counted : Found) → key ≡ (seen found).key
    → seen counted ≡ counting (option_map seen (lookup (is_at (key_cmp key)) es)) (seen found)
    → map held_entry (insert_entry key_cmp es key counted) ≡ held_after (map held_entry es) (seen found)
held_after-put es key found counted e h =
    map_values-insert_entry key_cmp seen es key counted
    ∙ ap (insert_entry key_cmp (map held_entry es) key) (h ∙ ap (λ held. counting held (seen found)) (sym (lookup-map_values seen (is_at (key_cmp key)) es)))
    ∙ ap (λ k. insert_entry key_cmp (map held_entry es) k (counting (lookup (is_at (key_cmp k)) (map held_entry es)) (seen found))) e
