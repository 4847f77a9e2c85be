-- The live records of bytes from an offset on, record by record, and what is found among them.
use Rattle.std.proofs.Common.{◌≡◌, ℕ, Bool, List, [], Option, Some, None, IfSome, ◌≤◌, length, refl, sym, ap, ◌∙◌, option_map, arith}
use Rattle.std.specs.BTreeMap.{is_at}
use Rattle.std.specs.Map.{lookup}
use Rattle.var_types.proofs.Bounds.{small_chosen}
use Rattle.var_types.proofs.Maps.{map_exact}
use Rattle.var_types.proofs.Records.{records_first, records_none}
use Rattle.var_types.specs.Chosen.{chosen, variable_of}
use Rattle.var_types.specs.declared.key.Key.{Key}
use Rattle.var_types.specs.declared.record.Record.{Record}
use Rattle.var_types.specs.Key.{key_cmp}
use Rattle.var_types.specs.Layout.{longest_region}
use Rattle.var_types.specs.Live.{live_of, lives, with_live}
use Rattle.var_types.specs.Record.{Authenticated, next_offset, record_at}
use Rattle.var_types.specs.Region.{Region, region_lives, region_map}
use Rattle.var_region.specs.declared.found.Found.{Found}
use Rattle.var_region.specs.Found.{seen, seen_variable}
use Rattle.var_region.specs.Lives.{lives_at}

module _ (non_volatile : Bool) (bytes : List ℕ) where
  -- the live records from a record on
  pub lives_first : (at : ℕ) (r : Record) → record_at Authenticated bytes at ≡ Some r
      → lives_at non_volatile bytes at ≡ with_live (live_of Authenticated non_volatile bytes r) (lives_at non_volatile bytes (next_offset Authenticated r))
  unfolding lives_at
  lives_first at r e = ap (lives Authenticated non_volatile bytes) (records_first Authenticated bytes at r e)

  -- there are none from where there is no record
  pub lives_none : (at : ℕ) → record_at Authenticated bytes at ≡ None → lives_at non_volatile bytes at ≡ []
  unfolding lives_at
  lives_none at e = ap (lives Authenticated non_volatile bytes) (records_none Authenticated bytes at e)

-- the variable of the record that counts for a key is the map's
pub found_in_map : (region : Region) (key : Key) (found : Option Found) → option_map seen found ≡ chosen key (region_lives region)
    → option_map seen_variable found ≡ lookup (is_at (key_cmp key)) (region_map region)
unfolding region_map
found_in_map region key found e = by found ∙ ap variable_of e ∙ sym ((map_exact (region_lives region)).holds key)
  where
    by : (o : Option Found) → option_map seen_variable o ≡ variable_of (option_map seen o)
    by None = refl
    by (Some f) = refl

-- the record that was found for a key has no more data than a region may have bytes
pub small_found : (region : Region) (key : Key) (found : Option Found) → length region.bytes ≤ longest_region
    → option_map seen found ≡ chosen key (region_lives region) → IfSome found (λ f. length f.payload.now ≤ longest_region)
small_found region key None room e = tt
small_found region key (Some f) room e = let small = small_chosen region key (seen f) (sym e) in omega arith
