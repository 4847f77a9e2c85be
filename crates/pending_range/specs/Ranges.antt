-- Which offsets of the two stores ranges cover, and what that says of the stores' bytes.
use Rattle.std.specs.Prelude.{◌≡◌, ℕ, suc, ◌&&◌, Bool, true, List, [], ◌∷◌, length, min, max, nat_le, nat_lt, slice_index, if◌then◌else◌}
use Rattle.pending_range.specs.declared.range.Range.{Range}
use Rattle.pending_range.specs.declared.ranges.Ranges.{Ranges}
use Rattle.var_types.specs.declared.store.Store.{Store}
use Rattle.var_types.specs.declared.store.Store.TheVariants.{NonVolatile, Volatile}
use Rattle.var_types.specs.Stores.{Stores, bytes_in}

-- whether a range has an offset
abbrev pub is_within : Range → ℕ → Bool
is_within range at = nat_le range.from at && nat_lt at range.to

-- whether a range has no offset
abbrev pub is_empty_range : Range → Bool
is_empty_range range = nat_le range.to range.from

-- the range of a store
abbrev pub range_in : Ranges → Store → Range
range_in ranges NonVolatile = ranges.non_volatile
range_in ranges Volatile = ranges.volatile

-- the ranges with another one for a store
abbrev pub with_range : Ranges → Store → Range → Ranges
with_range ranges NonVolatile range = record ranges { non_volatile = range }
with_range ranges Volatile range = record ranges { volatile = range }

-- whether ranges cover an offset of a store (EDK II, VARIABLE_RUNTIME_CACHE, PendingUpdateOffset and PendingUpdateLength)
unfoldable pub is_covered : Ranges → Store → ℕ → Bool
is_covered ranges store at = is_within (range_in ranges store) at

-- ranges cover an offset of a store
abbrev pub IsCovered : Ranges → Store → ℕ → Type 0
IsCovered ranges store at = is_covered ranges store at ≡ true

-- ranges cover all that others do
pub record IsWider (old new : Ranges) : Type 0 where
  pub wider : (store : Store) (at : ℕ) → IsCovered old store at → IsCovered new store at

-- the least range that holds two: an empty one adds nothing
abbrev pub spanned : Range → Range → Range
spanned range more =
    if is_empty_range more then range
    else if is_empty_range range then more
    else record { from = min range.from more.from; to = max range.to more.to }

-- the ranges that cover nothing
unfoldable pub no_ranges : Ranges
no_ranges = record { non_volatile = record { from = 0; to = 0 }; volatile = record { from = 0; to = 0 } }

-- ranges that cover the offsets of a store from one up to another too
unfoldable pub extended : Ranges → Store → ℕ → ℕ → Ranges
extended ranges store from to = with_range ranges store (spanned (range_in ranges store) (record { from = from; to = to }))

-- ranges that cover the offsets of a store below 65,536
unfoldable pub whole_in : Ranges → Store → Ranges
whole_in ranges store = with_range ranges store (record { from = 0; to = 65536 })

-- bytes that stand from an offset on, with those at offsets that pass a test taken from others
abbrev pub taken_from : (ℕ → Bool) → ℕ → List ℕ → List ℕ → List ℕ
taken_from test at [] old = old
taken_from test at (n ∷ ns) [] = []
taken_from test at (n ∷ ns) (o ∷ os) = (if test at then n else o) ∷ taken_from test (suc at) ns os

-- bytes with those at offsets that pass a test taken from newer ones
unfoldable pub taken : (ℕ → Bool) → List ℕ → List ℕ → List ℕ
taken test new old = taken_from test 0 new old

-- two pairs of stores have the same sizes, and are equal outside of what ranges cover (this project's own)
pub record AgreeOutside (ranges : Ranges) (a b : Stores) : Type 0 where
  pub sizes : (store : Store) → length (bytes_in a store) ≡ length (bytes_in b store)
  pub outside : (store : Store) (at : ℕ) → (IsCovered ranges store at → ⊥) → slice_index (bytes_in a store) at ≡ slice_index (bytes_in b store) at
