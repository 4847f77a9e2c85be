use Rattle.std.specs.Prelude.{◌≡◌, ◌≢◌, ℕ, ◌≤◌, ◌<◌, ◌⊎◌, ◌↔◌, false, nat_lt}
use Rattle.pending_range.specs.declared.ranges.Ranges.{Ranges}
use Rattle.pending_range.specs.Ranges.{AgreeOutside, IsCovered, IsWider, extended, is_covered, no_ranges, whole_in}
use Rattle.var_types.specs.declared.store.Store.{Store}
use Rattle.var_types.specs.Stores.{Stores}

-- no offset is covered
abbrev pub NoRangesCoverNothing : Type 0
NoRangesCoverNothing = (store : Store) (at : ℕ) → is_covered no_ranges store at ≡ false

-- of a whole store exactly the offsets below 65,536 are covered, and of the other those as before
pub record IsWhole (old new : Ranges) (store : Store) : Type 0 where
  pub here : (at : ℕ) → is_covered new store at ≡ nat_lt at 65536
  pub there : (other : Store) (at : ℕ) → other ≢ store → is_covered new other at ≡ is_covered old other at

-- ranges that cover a whole store do
abbrev pub WholeRangesCoverTheirStore : Type 0
WholeRangesCoverTheirStore = (ranges : Ranges) (store : Store) → IsWhole ranges (whole_in ranges store) store

-- an offset of a store is covered, or is one of some new ones
abbrev pub IsHeld : Ranges → Store → ℕ → ℕ → ℕ → Type 0
IsHeld ranges store from to at = IsCovered ranges store at ⊎ ((from ≤ at) × (at < to))

-- an offset of a store stands between two that are covered or new, or is one of them
pub record IsSpanned (ranges : Ranges) (store : Store) (from to at : ℕ) : Type 0 where
  pub low : ℕ
  pub high : ℕ
  pub low_held : IsHeld ranges store from to low
  pub high_held : IsHeld ranges store from to high
  pub above : low ≤ at
  pub below : at ≤ high

-- of an extended store exactly the offsets between covered and new ones are covered, so no range with those covers less; of the other those as
-- before
pub record IsLeast (old new : Ranges) (store : Store) (from to : ℕ) : Type 0 where
  pub here : (at : ℕ) → IsCovered new store at ↔ IsSpanned old store from to at
  pub there : (other : Store) (at : ℕ) → other ≢ store → is_covered new other at ≡ is_covered old other at
  pub none : to ≤ from → new ≡ old

-- extended ranges are the least
abbrev pub ExtendedRangesAreLeast : Type 0
ExtendedRangesAreLeast = (ranges : Ranges) (store : Store) (from to : ℕ) → IsLeast ranges (extended ranges store from to) store from to

-- stores agree with themselves outside of any ranges
abbrev pub AgreementIsReflexive : Type 0
AgreementIsReflexive = (ranges : Ranges) (stores : Stores) → AgreeOutside ranges stores stores

-- stores that agree outside of ranges agree outside of wider ones with stores that those agree with there
abbrev pub AgreementGrows : Type 0
AgreementGrows =
    (old new : Ranges) (a b c : Stores) → IsWider old new → AgreeOutside old a b → AgreeOutside new b c → AgreeOutside new a c
