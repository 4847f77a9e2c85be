use Rattle.std.specs.Prelude.{ℕ, Bool, List, [], ◌∷◌, ◌&&◌, find, Option, Some, None}
use Rattle.std.specs.BTreeMap.{insert_entry}
use Rattle.var_types.specs.declared.key.Key.{Key}
use Rattle.var_types.specs.declared.record.Record.{Record}
use Rattle.var_types.specs.declared.variable.Variable.{Variable}
use Rattle.var_types.specs.Chosen.{chosen}
use Rattle.var_types.specs.Key.{key_cmp}
use Rattle.var_types.specs.Least.{is_shown}
use Rattle.var_types.specs.Live.{Live, lives}
use Rattle.var_types.specs.Next.{is_above}
use Rattle.var_types.specs.Record.{Form, records, tail_from, is_clean}

-- a region: its bytes, the offset of its first record, the form of its records, and whether it is the non-volatile store's
pub record Region : Type 0 where
  pub form : Form
  pub bytes : List ℕ
  pub first : ℕ
  pub non_volatile : Bool

-- the records of a region
unfoldable pub region_records : Region → List Record
region_records region = records region.form region.bytes region.first

-- the records of a region that are variables'
unfoldable pub region_lives : Region → List Live
region_lives region = lives region.form region.non_volatile region.bytes (region_records region)

-- entries in key order with the one that counts for a key
abbrev pub with_variable : Key → Option Live → List (Key × Variable) → List (Key × Variable)
with_variable key None entries = entries
with_variable key (Some live) entries = insert_entry key_cmp entries key live.variable

-- the entries of the keys of some live records, by the record that counts among all
abbrev pub entries_in : List Live → List Live → List (Key × Variable)
entries_in all [] = []
entries_in all (live ∷ ls) = with_variable live.key (chosen live.key all) (entries_in all ls)

-- the map of live records, as entries in key order: each key has the variable of the record that counts for it
unfoldable pub map_of : List Live → List (Key × Variable)
map_of ls = entries_in ls ls

-- the map of a region (EDK II; the choice among several records of one key is this project's own)
unfoldable pub region_map : Region → List (Key × Variable)
region_map region = map_of (region_lives region)

-- the offset behind the records of a region
unfoldable pub tail_offset : Region → ℕ
tail_offset region = tail_from region.form region.first (region_records region)

-- whether all bytes behind the records of a region are erased
unfoldable pub is_tail_clean : Region → Bool
is_tail_clean region = is_clean region.bytes (tail_offset region)

-- the entry of the least key above a bound that callers see (UEFI 2.10, 8.2.2; the order is this project's own)
unfoldable pub entry_above : Region → Bool → Option Key → Option (Key × Variable)
entry_above region runtime bound =
    find (λ entry. is_shown runtime entry.1 && is_above bound entry.0) (region_map region)
