-- What holds of each live record's key and variable holds of each entry of a region's map.
use Rattle.std.proofs.Common.{◌≡◌, ℕ, ◌+◌, ◌%◌, ◌==◌, ◌&&◌, ◌||◌, not, Bool, true, false, cond, List, [], ◌∷◌, drop, All, Option, Some, None, Result, Ok, Err, Ordering, Less, Equal, Greater, refl, sym, subst, ◌∙◌, true≢false, arith, length-take, length-drop}
use Rattle.std.proofs.lemmas.List.Elements.{All-from_recursion}
use Rattle.std.specs.BTreeMap.{insert_entry}
use Rattle.std.specs.List.{AllByRecursion}
use Rattle.std.specs.Ordering.{match_ordering}
use Rattle.var_types.proofs.Bounds.{IfLive, of_lives}
use Rattle.var_types.proofs.Chosen.{chosen-all, chosen_key}
use Rattle.var_types.proofs.Keys.{same_key}
use Rattle.var_types.specs.Attributes.{has, non_volatile_bit}
use Rattle.var_types.specs.Chosen.{chosen}
use Rattle.var_types.specs.declared.key.Key.{Key}
use Rattle.var_types.specs.declared.name.NameFault.{NameFault}
use Rattle.var_types.specs.declared.record.Record.{Record}
use Rattle.var_types.specs.declared.record_state.RecordState.{RecordState}
use Rattle.var_types.specs.declared.variable.Variable.{Variable}
use Rattle.var_types.specs.Key.{key_cmp}
use Rattle.var_types.specs.Live.{Live, before_nul, if_named, live_entry, live_in_state, live_named, live_of, name_bytes, name_in, units_in, well_formed}
use Rattle.var_types.specs.Name.{name_check}
use Rattle.var_types.specs.Record.{header_size}
use Rattle.var_types.specs.RecordState.{record_state}
use Rattle.var_types.specs.Region.{Region, entries_in, map_of, region_lives, region_map, region_records, with_variable}
use Rattle.var_types.specs.TwoRegionsLaws.{IsOwned}
use Rattle.var_types.specs.Walk.{IsWellFormed}

module _ (P : Key × Variable → Type 0) where
  -- what holds of entries and of one more holds of them with it
  all_put : (k : Key) (v : Variable) (es : List (Key × Variable)) → P (k, v) → AllByRecursion P es → AllByRecursion P (insert_entry key_cmp es k v)
  all_put k v [] here all = (here, tt)
  all_put k v (e ∷ es) here all = by (key_cmp k e.0) refl (all_put k v es here all.1)
    where
      by : (o : Ordering) → key_cmp k e.0 ≡ o → AllByRecursion P (insert_entry key_cmp es k v)
          → AllByRecursion P (match_ordering o ((k, v) ∷ e ∷ es) ((e.0, v) ∷ es) (e ∷ insert_entry key_cmp es k v))
      by Less h later = (here, all)
      by Equal h later = (subst (λ (key : Key). P (key, v)) (same_key k e.0 h) here, all.1)
      by Greater h later = (all.0, later)

  -- what holds of all live records holds of the entries of some of their keys
  owned_entries : (all ls : List Live) → AllByRecursion (λ live. P (live_entry live)) all → AllByRecursion P (entries_in all ls)
  owned_entries all [] owned = tt
  owned_entries all (live ∷ ls) owned = by (chosen live.key all) refl (owned_entries all ls owned)
    where
      by : (found : Option Live) → chosen live.key all ≡ found → AllByRecursion P (entries_in all ls)
          → AllByRecursion P (with_variable live.key found (entries_in all ls))
      by None is rest = rest
      by (Some l) is rest =
          all_put live.key l.variable (entries_in all ls)
          (subst (λ (key : Key). P (key, l.variable)) (chosen_key live.key all l is)
          (chosen-all (λ (l : Live). P (live_entry l)) live.key all owned l is)) rest

  -- what holds of each live record holds of their map
  pub owned_map : (ls : List Live) → AllByRecursion (λ live. P (live_entry live)) ls → AllByRecursion P (map_of ls)
  unfolding map_of
  owned_map ls owned = owned_entries ls ls owned

-- a found name is well-formed
abbrev NamedIf : Option (List ℕ) → Type 0
NamedIf None = Unit {0}
NamedIf (Some units) = IsWellFormed units

-- a name that passes the check is well-formed
named_checked : (units : List ℕ) → NamedIf (if_named units (name_check units))
named_checked units = by (name_check units) refl
  where
    by : (check : Result (Unit {0}) NameFault) → name_check units ≡ check → NamedIf (if_named units check)
    by (Ok u) h = h
    by (Err fault) h = tt

-- and so is one of units that are
named_well_formed : (units : Option (List ℕ)) → NamedIf (well_formed units)
named_well_formed None = tt
named_well_formed (Some units) = named_checked units

-- the name in name bytes is well-formed
named_in : (bytes : List ℕ) (size : ℕ) → NamedIf (name_in bytes size)
unfolding name_in
named_in bytes size = by (size % 2 == 0)
  where
    by : (even : Bool) → NamedIf (cond even (well_formed (before_nul (units_in bytes))) None)
    by true = named_well_formed (before_nul (units_in bytes))
    by false = tt

module _ (region : Region) where
  -- a region owns a live record
  abbrev Owns : Live → Type 0
  Owns live = IsOwned region (live_entry live)

  -- a region owns a record with a name
  owned_named : (r : Record) (state : RecordState) (name : Option (List ℕ)) → NamedIf name
      → (region.non_volatile ≡ true → has r.header.attributes non_volatile_bit ≡ true) → IfLive Owns (live_named region.form region.bytes r state name)
  owned_named r state None named kept = tt
  owned_named r state (Some name) named kept =
      let from = r.at + header_size region.form + r.header.name_size in
      record {
        fits = omega (arith, length-take r.header.data_size (drop from region.bytes), length-drop from region.bytes);
        named = named;
        kept = kept;
      }

  -- a region owns each of its live records
  owned_live : (r : Record) → IfLive Owns (live_of region.form region.non_volatile region.bytes r)
  unfolding live_of
  owned_live r =
      by r.whole region.non_volatile refl (has r.header.attributes non_volatile_bit) refl (record_state r.header.state)
    where
      named : (state : RecordState) → (region.non_volatile ≡ true → has r.header.attributes non_volatile_bit ≡ true)
          → IfLive Owns (live_in_state region.form region.bytes r (Some state))
      named state kept =
          owned_named r state (name_in (name_bytes region.form region.bytes r) r.header.name_size)
          (named_in (name_bytes region.form region.bytes r) r.header.name_size) kept

      by : (whole store : Bool) → region.non_volatile ≡ store → (bit : Bool) → has r.header.attributes non_volatile_bit ≡ bit
          → (state : Option RecordState) → IfLive Owns (cond (whole && (not store || bit)) (live_in_state region.form region.bytes r state) None)
      by false store is bit h state = tt
      by true false is bit h None = tt
      by true false is bit h (Some state) = named state (λ non_volatile. absurd (true≢false (sym non_volatile ∙ is)))
      by true true is false h state = tt
      by true true is true h None = tt
      by true true is true h (Some state) = named state (λ non_volatile. h)

  -- a region owns its map
  pub owned_region : All (IsOwned region) (region_map region)
  unfolding region_map region_lives
  owned_region =
      All-from_recursion (IsOwned region) (map_of (region_lives region))
      (owned_map (IsOwned region) (region_lives region)
      (of_lives region.form region.non_volatile region.bytes Owns owned_live (region_records region)))
