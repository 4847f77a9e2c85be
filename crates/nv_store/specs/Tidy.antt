-- How many of a key's records stand in a state, and regions in which nothing is left over.
use Rattle.std.specs.Prelude.{◌≡◌, ◌≤◌, Bool, true, not, ◌&&◌, List, [], ◌∷◌, count_by}
use Rattle.std.specs.List.{list_any}
use Rattle.var_types.specs.Chosen.{is_added, is_in_transition}
use Rattle.var_types.specs.declared.key.Key.{Key}
use Rattle.var_types.specs.Live.{Live}
use Rattle.var_types.specs.Region.{Region, is_tail_clean, region_lives}
use Rattle.nv_store.specs.Places.{stands_in}

-- no key has two ADDED records, and none has two in transition to deleted (this project's own)
pub record IsSingle (ls : List Live) : Type 0 where
  pub added : (key : Key) → count_by (is_added key) ls ≤ 1
  pub in_transition : (key : Key) → count_by (is_in_transition key) ls ≤ 1

-- whether no live record has one behind it of the same key in the same state (this project's own)
abbrev pub are_single : List Live → Bool
are_single [] = true
are_single (live ∷ ls) = not (list_any (stands_in live.state live.key) ls) && are_single ls

-- nothing is left over in a region of writes that were interrupted: its tail is clean, and no key has two records in one state (this project's own)
pub record IsTidy (region : Region) : Type 0 where
  pub clean : is_tail_clean region ≡ true
  pub single : IsSingle (region_lives region)
