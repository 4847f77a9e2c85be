-- What searches in two regions find, as searches in their variables together.
use Rattle.std.proofs.Common.{◌≡◌, ℕ, ◌≤◌, ◌<◌, ◌&&◌, Bool, true, false, cond, List, [], ◌∷◌, length, Err, arith, nat_lt, ◌==◌, position, find, is_lt, Option, Some, None, IfSome, is_some, refl, sym, ap, subst, ◌∙◌, true≢false, option_map}
use Rattle.std.proofs.lemmas.Bool.{eqb-true}
use Rattle.std.specs.BTreeMap.{is_at}
use Rattle.std.specs.Map.{lookup}
use Rattle.std.specs.Option.{option_or}
use Rattle.var_types.proofs.Bounds.{HasShortName, short_names}
use Rattle.var_types.proofs.Chosen.{chosen-all}
use Rattle.var_types.proofs.Joined.{find-joined, lookup-joined}
use Rattle.var_types.proofs.Maps.{map_exact}
use Rattle.var_types.specs.Chosen.{chosen}
use Rattle.var_types.specs.declared.key.Key.{Key}
use Rattle.var_types.specs.declared.variable.Variable.{Variable}
use Rattle.var_types.specs.declared.guid.Guid.{Guid}
use Rattle.var_types.specs.declared.name.NameFault.TheVariants.{Empty, TooLong}
use Rattle.var_types.specs.Key.{key_cmp, key_of}
use Rattle.var_types.specs.Name.{name_check, nul_check}
use Rattle.var_types.specs.Layout.{longest_name}
use Rattle.var_types.specs.Least.{is_shown}
use Rattle.var_types.specs.Live.{units_in}
use Rattle.var_types.specs.Next.{is_above, next_above}
use Rattle.var_types.specs.Region.{Region, entry_above, region_lives, region_map}
use Rattle.var_types.specs.Stores.{state_seen}
use Rattle.var_types.specs.TwoRegions.{AreApart, joined, lesser}
use Rattle.var_region.specs.declared.found.Found.{Found}
use Rattle.var_region.specs.Found.{seen, seen_entry, seen_key, seen_variable}
use Rattle.var_region.specs.Wanted.{bound_of}

-- what stands at a key
abbrev at : Key → List (Key × Variable) → Option Variable
at key es = lookup (is_at (key_cmp key)) es

module _ (xs ys : List (Key × Variable)) (key : Key) where
  -- what was found in the first map is that of both
  pub stored_first : (found : Option Found) → is_some found ≡ true → option_map seen_variable found ≡ at key xs
      → option_map seen_variable found ≡ at key (joined xs ys)
  stored_first None some is = absurd (true≢false (sym some))
  stored_first (Some f) some is = sym (lookup-joined xs ys key ∙ ap (λ o. option_or o (at key ys)) (sym is))

  -- where nothing was found there, what was found in the second is
  pub stored_second : (found later : Option Found) → is_some found ≡ false → option_map seen_variable found ≡ at key xs
      → option_map seen_variable later ≡ at key ys → option_map seen_variable later ≡ at key (joined xs ys)
  stored_second None later none is next = next ∙ sym (lookup-joined xs ys key ∙ ap (λ o. option_or o (at key ys)) (sym is))
  stored_second (Some f) later none is next = absurd (true≢false none)

-- the least key that callers see above a bound is the lesser of the two that the regions have
pub above_both : (a b : Region) (runtime : Bool) (bound : Option Key) → AreApart (region_map a) (region_map b)
    → lesser (entry_above a runtime bound) (entry_above b runtime bound)
    ≡ find (λ (entry : Key × Variable). is_shown runtime entry.1 && is_above bound entry.0) (joined (region_map a) (region_map b))
unfolding entry_above region_map
above_both a b runtime bound apart =
    sym (find-joined (λ entry. is_shown runtime entry.1 && is_above bound entry.0) (region_map a) (region_map b)
    (map_exact (region_lives a)).ordered (map_exact (region_lives b)).ordered apart)

-- a record's name has no more units than names may have
abbrev pub IsShort : Found → Type 0
IsShort f = length (units_in f.name.now) ≤ longest_name

-- a record that counts in a region has a short name
pub short_found : (region : Region) (found : Option Found) → IfSome found (λ f. chosen (seen_key f) (region_lives region) ≡ Some (seen f))
    → IfSome found IsShort
short_found region None counts = counts
short_found region (Some f) counts = chosen-all HasShortName (seen_key f) (region_lives region) (short_names region) (seen f) counts

-- so has one of the same entry
short_alike : (f g : Found) → Some (seen_entry f) ≡ Some (seen_entry g) → IsShort g → IsShort f
short_alike f g is short =
    let same : seen_entry g ≡ seen_entry f = cc in
    subst (λ (e : Key × Variable). length e.0.name ≤ longest_name) same short

-- so has one that is one of two that have
pub short_lesser : (a b found : Option Found) → option_map seen_entry found ≡ lesser (option_map seen_entry a) (option_map seen_entry b)
    → IfSome a IsShort → IfSome b IsShort → IfSome found IsShort
short_lesser a b None is first second = tt
short_lesser None None (Some f) is first second = cc
short_lesser None (Some g) (Some f) is first second = short_alike f g is second
short_lesser (Some g) None (Some f) is first second = short_alike f g is first
short_lesser (Some g) (Some h) (Some f) is first second = by (is_lt (key_cmp (seen_key h) (seen_key g))) is
  where
    by : (b : Bool) → Some (seen_entry f) ≡ cond b (Some (seen_entry h)) (Some (seen_entry g)) → IsShort f
    by true is = short_alike f h is second
    by false is = short_alike f g is first

-- the key of the entry that was found is the next one
pub next_found_key : (a b : Region) (runtime : Bool) (bound : Option Key) (found : Option Found)
    → option_map seen_entry found ≡ find (λ (entry : Key × Variable). is_shown runtime entry.1 && is_above bound entry.0) (joined (region_map a) (region_map b))
    → option_map seen_key found ≡ next_above (state_seen a b runtime) bound
unfolding next_above state_seen
next_found_key a b runtime bound found is = by found ∙ ap (option_map (λ (e : Key × Variable). e.0)) is
  where
    by : (o : Option Found) → option_map seen_key o ≡ option_map (λ (e : Key × Variable). e.0) (option_map seen_entry o)
    by None = refl
    by (Some f) = refl

-- a name that is not empty is a bound
pub bound_named : (guid : Guid) (name : List ℕ) → 0 < length name → bound_of guid name ≡ Some (key_of guid name)
bound_named guid [] some = absurd (omega arith)
bound_named guid (unit ∷ units) some = refl

-- an empty one is none
pub bound_empty : (guid : Guid) (name : List ℕ) → name_check name ≡ Err Empty → bound_of guid name ≡ None
bound_empty guid [] empty = refl
bound_empty guid (unit ∷ units) empty =
    absurd (by (length (unit ∷ units) == 0) refl (nat_lt longest_name (length (unit ∷ units))) (position (λ u. u == 0) (unit ∷ units)) empty)
  where
    by : (none : Bool) → (length (unit ∷ units) == 0) ≡ none → (many : Bool) (nul : Option ℕ)
        → cond none (Err Empty) (cond many (Err (TooLong (length (unit ∷ units)))) (nul_check nul)) ≡ Err Empty → ⊥
    by true e many nul h = let zero_long : length (unit ∷ units) ≡ 0 = eqb-true (length (unit ∷ units)) 0 e in omega arith
    by false e true nul h = cc
    by false e false None h = cc
    by false e false (Some n) h = cc
