-- The census of a compacted region: as many ADDED records as variables, and no other ones.
use Rattle.std.proofs.Common.{◌≡◌, ℕ, List, [], ◌∷◌, ◌++◌, length, sum_by, refl, sym, ap, ◌∙◌, arith, None}
use Rattle.std.proofs.lemmas.List.Sums.{sum_by-cons}
use Rattle.std.specs.BTreeMap.{is_at}
use Rattle.std.specs.Cmp.{Equal-is}
use Rattle.std.specs.Map.{lookup}
use Rattle.var_types.proofs.Censuses.{kinds_add_up}
use Rattle.var_types.proofs.Keys.{key_cmp_total, same_key}
use Rattle.var_types.proofs.Sums.{sum_by-insert_entry, sum_by-remove_entry, weight_at}
use Rattle.var_types.specs.Census.{census_of, count_of}
use Rattle.var_types.specs.declared.key.Key.{Key}
use Rattle.var_types.specs.declared.variable.Variable.{Variable}
use Rattle.var_types.specs.Key.{key_cmp}
use Rattle.var_types.specs.Live.{Live}
use Rattle.var_types.specs.Region.{map_of, region_map}
use Rattle.region_compact.specs.Compacted.{kept_lives}
use Rattle.region_compact.specs.Laws.{CompactionsLeaveAddedAlone, anew}
use Rattle.region_compact.specs.Replace.{added_lives, replaced_key}
use Rattle.region_compact.proofs.Distinct.{AreDistinct, distinct_after}
use Rattle.region_compact.proofs.MapAfter.{first-none, look_all, map_moved, ordered_all, put_all}
use Rattle.region_compact.proofs.Orders.{added_anew, lives_anew}

-- one, for each entry
abbrev one : Key × Variable → ℕ
one entry = 1

-- the number of entries as a sum
length_ones : (es : List (Key × Variable)) → sum_by one es ≡ length es
length_ones [] = refl
length_ones (e ∷ es) = omega (arith, sum_by-cons one e es, length_ones es)

-- distinct live records are as many entries
length_put : (ls : List Live) → AreDistinct ls → sum_by one (put_all ls) ≡ length ls
length_put [] are = refl
length_put (live ∷ ls) are =
    let test = is_at (key_cmp live.key) in
    let es = put_all ls in
    let none : lookup test es ≡ None = look_all live.key ls ∙ first-none live.key ls are.0 in
    let without = sum_by-remove_entry one test live.key (λ q t. sym (same_key live.key q ((Equal-is (key_cmp live.key q)).0 t))) es in
    let weight : weight_at one live.key (lookup test es) ≡ 0 = ap (weight_at one live.key) none in
    let put = sum_by-insert_entry one key_cmp_total same_key live.key live.variable es (ordered_all ls) in
    let rest = length_put ls are.1 in
    omega arith

pub CompactionsLeaveAddedAlone-all : CompactionsLeaveAddedAlone
unfolding census_of count_of region_map
CompactionsLeaveAddedAlone-all region replace front left is even =
    let ls = kept_lives region (replaced_key replace) ++ added_lives replace in
    let added = added_anew region replace front left is even in
    let kinds = kinds_add_up (anew region replace front left) in
    let variables : length (region_map (anew region replace front left)) ≡ length ls =
    ap (λ found. length (map_of found)) (lives_anew region replace front left is even)
    ∙ ap length (map_moved (length front) ls)
    ∙ sym (length_ones (put_all ls))
    ∙ length_put ls (distinct_after region replace) in
    record {
      records = added.0 ∙ sym variables;
      added = added.1 ∙ sym variables;
      transition = omega (arith, kinds, added.0, added.1);
      deleted = omega (arith, kinds, added.0, added.1);
      other = omega (arith, kinds, added.0, added.1);
    }
