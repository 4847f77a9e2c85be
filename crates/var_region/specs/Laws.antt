use Rattle.std.specs.Prelude.{◌≡◌, ℕ, ◌-◌, true, List, [], None, length, drop, replicate}
use Rattle.var_types.specs.Chosen.{chosen, chosen_from}
use Rattle.var_types.specs.declared.key.Key.{Key}
use Rattle.var_types.specs.Live.{Live}
use Rattle.var_types.specs.Region.{Region, is_tail_clean, region_map, region_records, tail_offset}

-- a region has no records, an empty map, and a clean tail at its first offset
pub record IsEmptyRegion (region : Region) : Type 0 where
  pub no_records : region_records region ≡ []
  pub no_variables : region_map region ≡ []
  pub offset : tail_offset region ≡ region.first
  pub clean : is_tail_clean region ≡ true

-- bytes are erased from an offset on
abbrev pub AreErasedFrom : ℕ → List ℕ → Type 0
AreErasedFrom at bytes = drop at bytes ≡ replicate (length bytes - at) 0xFF

-- a region whose bytes are erased from its first record's offset on is empty
abbrev pub ErasedRegionsAreEmpty : Type 0
ErasedRegionsAreEmpty = (region : Region) → AreErasedFrom region.first region.bytes → IsEmptyRegion region

-- what a pass over live records from none finds for a key is the record that counts for it
abbrev pub OnePassFindsWhatCounts : Type 0
OnePassFindsWhatCounts = (key : Key) (ls : List Live) → chosen_from key None ls ≡ chosen key ls
