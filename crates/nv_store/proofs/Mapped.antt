-- What a map tells of the live records.
use Rattle.std.proofs.Common.{◌≡◌, Bool, true, false, cond, List, Option, Some, None, IsSome, refl, ap, ◌∙◌}
use Rattle.std.proofs.lemmas.Cmp.{eq_by_cmp_equiv}
use Rattle.std.specs.BTreeMap.{insert_entry, is_at}
use Rattle.std.specs.List.{list_any}
use Rattle.std.specs.Map.{lookup}
use Rattle.var_types.proofs.Chosen.{chosen-none}
use Rattle.var_types.proofs.Entries.{lookup-insert_entry}
use Rattle.var_types.proofs.Keys.{key_cmp_total}
use Rattle.var_types.proofs.Maps.{map_exact}
use Rattle.var_types.specs.Chosen.{is_of, variable_of}
use Rattle.var_types.specs.declared.key.Key.{Key}
use Rattle.var_types.specs.declared.variable.Variable.{Variable}
use Rattle.var_types.specs.Key.{key_cmp}
use Rattle.var_types.specs.Live.{Live}
use Rattle.var_types.specs.Region.{Region, map_of, region_lives, region_map}

-- a key that none of the live records has isn't in their map
pub unmapped : (key : Key) (ls : List Live) → list_any (is_of key) ls ≡ false → lookup (is_at (key_cmp key)) (map_of ls) ≡ None
unmapped key ls none = (map_exact ls).holds key ∙ ap variable_of (chosen-none key ls none)

-- a key that is in a region's map is that of a live record
pub mapped_any : (key : Key) (region : Region) → IsSome (lookup (is_at (key_cmp key)) (region_map region)) → list_any (is_of key) (region_lives region) ≡ true
unfolding region_map
mapped_any key region some = by (list_any (is_of key) (region_lives region)) refl
  where
    no : (found : Option Variable) → found ≡ None → IsSome found → ⊥
    no None e some = cc
    no (Some v) e some = cc

    by : (b : Bool) → list_any (is_of key) (region_lives region) ≡ b → b ≡ true
    by true e = refl
    by false e = absurd (no (lookup (is_at (key_cmp key)) (map_of (region_lives region))) (unmapped key (region_lives region) e) some)

-- a key that was put is in the map
pub put_mapped : (key : Key) (variable : Variable) (entries : List (Key × Variable))
    → IsSome (lookup (is_at (key_cmp key)) (insert_entry key_cmp entries key variable))
put_mapped key variable entries = by (lookup (is_at (key_cmp key)) (insert_entry key_cmp entries key variable)) found
  where
    found : lookup (is_at (key_cmp key)) (insert_entry key_cmp entries key variable) ≡ Some variable
    found =
        lookup-insert_entry key_cmp_total key variable entries key
        ∙ ap (λ b. cond b (Some variable) (lookup (is_at (key_cmp key)) entries)) ((eq_by_cmp_equiv key_cmp_total).refl key)

    by : (o : Option Variable) → o ≡ Some variable → IsSome o
    by None e = cc
    by (Some v) e = refl
