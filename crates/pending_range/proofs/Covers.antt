-- What ranges cover: tests as facts, and the least range that holds what was covered and more.
use Rattle.std.proofs.Common.{◌≡◌, ◌≢◌, ℕ, ◌-◌, ◌≤◌, ◌<◌, ◌⊎◌, ◌&&◌, Bool, true, false, cond, min, max, nat_le, nat_lt, inl, inr, refl, sym, ap, ◌∙◌, ⊎_elim, true≢false, arith}
use Rattle.std.proofs.lemmas.Bool.{le-leb, leb-false, leb-true, lt-ltb, ltb-true}
use Rattle.std.proofs.lemmas.Bool.Decides.{nat_tests}
use Rattle.pending_range.specs.declared.range.Range.{Range}
use Rattle.pending_range.specs.declared.ranges.Ranges.{Ranges}
use Rattle.pending_range.specs.Laws.{IsHeld, IsLeast, IsWhole}
use Rattle.pending_range.specs.Ranges.{IsCovered, IsWider, extended, is_covered, is_empty_range, is_within, no_ranges, range_in, spanned, whole_in, with_range}
use Rattle.var_types.specs.declared.store.Store.{Store}
use Rattle.var_types.specs.declared.store.Store.TheVariants.{NonVolatile, Volatile}

-- an offset that is not below the start and below the end is within
pub within : (range : Range) (at : ℕ) → range.from ≤ at → at < range.to → is_within range at ≡ true
within range at low high = (λ i. le-leb range.from at low i && lt-ltb at range.to high i)

-- and the other way
pub bounds_of : (range : Range) (at : ℕ) → is_within range at ≡ true → (range.from ≤ at) × (at < range.to)
bounds_of range at h = by (nat_le range.from at) refl (nat_lt at range.to) refl h
  where
    by : (b : Bool) → nat_le range.from at ≡ b → (c : Bool) → nat_lt at range.to ≡ c → (b && c) ≡ true → (range.from ≤ at) × (at < range.to)
    by true p true q h = (leb-true range.from at p, ltb-true at range.to q)
    by true p false q h = absurd (true≢false (sym h))
    by false p c q h = absurd (true≢false (sym h))

-- what one of two ranges has, their span has
span_holds : (range more : Range) (at : ℕ) → (is_within range at ≡ true) ⊎ (is_within more at ≡ true) → is_within (spanned range more) at ≡ true
span_holds range more at h = by (is_empty_range more) refl (is_empty_range range) refl
  where
    by : (b : Bool) → is_empty_range more ≡ b → (c : Bool) → is_empty_range range ≡ c
        → is_within (cond b range (cond c more (record { from = min range.from more.from; to = max range.to more.to }))) at ≡ true
    by true e c f =
        ⊎_elim (λ here. here)
        (λ there. let bounds = bounds_of more at there in let none : more.to ≤ more.from = leb-true more.to more.from e in absurd (omega arith)) h
    by false e true f =
        ⊎_elim (λ here. let bounds = bounds_of range at here in let none : range.to ≤ range.from = leb-true range.to range.from f in absurd (omega arith))
        (λ there. there) h
    by false e false f =
        within (record { from = min range.from more.from; to = max range.to more.to }) at
        (⊎_elim (λ here. let bounds = bounds_of range at here in omega arith) (λ there. let bounds = bounds_of more at there in omega arith) h)
        (⊎_elim (λ here. let bounds = bounds_of range at here in omega arith) (λ there. let bounds = bounds_of more at there in omega arith) h)

-- one of two ranges has an offset
abbrev HasEither : Range → Range → ℕ → Type 0
HasEither range more at = (is_within range at ≡ true) ⊎ (is_within more at ≡ true)

-- an offset stands between two that one of two ranges has
record IsBetween (range more : Range) (at : ℕ) : Type 0 where
  low : ℕ
  high : ℕ
  low_held : HasEither range more low
  high_held : HasEither range more high
  above : low ≤ at
  below : at ≤ high

module _ (range more : Range) (some : range.from < range.to) (new : more.from < more.to) (at : ℕ) where
  -- the least offset of either
  lowest : min range.from more.from ≤ at → (low : ℕ) × (HasEither range more low) × (low ≤ at)
  lowest h = by (nat_le range.from more.from) refl
    where
      by : (b : Bool) → nat_le range.from more.from ≡ b → (low : ℕ) × (HasEither range more low) × (low ≤ at)
      by true e =
          let first : range.from ≤ more.from = leb-true range.from more.from e in
          (range.from, inl (within range range.from (omega arith) some), omega arith)
      by false e =
          let first : more.from < range.from = leb-false range.from more.from e in
          (more.from, inr (within more more.from (omega arith) new), omega arith)

  -- the greatest
  highest : at < max range.to more.to → (high : ℕ) × (HasEither range more high) × (at ≤ high)
  highest h = by (nat_le more.to range.to) refl
    where
      by : (b : Bool) → nat_le more.to range.to ≡ b → (high : ℕ) × (HasEither range more high) × (at ≤ high)
      by true e =
          let last : more.to ≤ range.to = leb-true more.to range.to e in
          (range.to - 1, inl (within range (range.to - 1) (omega arith) (omega arith)), omega arith)
      by false e =
          let last : range.to < more.to = leb-false more.to range.to e in
          (more.to - 1, inr (within more (more.to - 1) (omega arith) (omega arith)), omega arith)

-- what the span of two ranges has stands between offsets that one of them has
span_least : (range more : Range) (at : ℕ) → is_within (spanned range more) at ≡ true → IsBetween range more at
span_least range more at h = by (is_empty_range more) refl (is_empty_range range) refl h
  where
    by : (b : Bool) → is_empty_range more ≡ b → (c : Bool) → is_empty_range range ≡ c
        → is_within (cond b range (cond c more (record { from = min range.from more.from; to = max range.to more.to }))) at ≡ true
        → IsBetween range more at
    by true e c f h = record { low = at; high = at; low_held = inl h; high_held = inl h; above = omega arith; below = omega arith }
    by false e true f h = record { low = at; high = at; low_held = inr h; high_held = inr h; above = omega arith; below = omega arith }
    by false e false f h =
        let bounds = bounds_of (record { from = min range.from more.from; to = max range.to more.to }) at h in
        let some : range.from < range.to = leb-false range.to range.from f in
        let new : more.from < more.to = leb-false more.to more.from e in
        let least = lowest range more some new at bounds.0 in
        let most = highest range more some new at bounds.1 in
        record { low = least.0; high = most.0; low_held = least.1; high_held = most.1; above = least.2; below = most.2 }

-- what stands between two offsets that their span has, the span has
span_between : (range more : Range) (at : ℕ) → IsBetween range more at → is_within (spanned range more) at ≡ true
span_between range more at between =
    let low = bounds_of (spanned range more) between.low (span_holds range more between.low between.low_held) in
    let high = bounds_of (spanned range more) between.high (span_holds range more between.high between.high_held) in
    let above = between.above in
    let below = between.below in
    within (spanned range more) at (reach (spanned range more).from between.low at low.0 above) (stay (spanned range more).to at between.high below high.1)
  where
    reach : (a b c : ℕ) → a ≤ b → b ≤ c → a ≤ c
    reach a b c p q = omega arith

    stay : (a b c : ℕ) → b ≤ c → c < a → b < a
    stay a b c p q = omega arith

-- the range that was put for a store
range_put : (ranges : Ranges) (store : Store) (range : Range) → range_in (with_range ranges store range) store ≡ range
range_put ranges NonVolatile range = refl
range_put ranges Volatile range = refl

-- the other store's stays
range_kept : (ranges : Ranges) (store other : Store) (range : Range) → other ≢ store → range_in (with_range ranges store range) other ≡ range_in ranges other
range_kept ranges NonVolatile NonVolatile range apart = absurd (apart refl)
range_kept ranges NonVolatile Volatile range apart = refl
range_kept ranges Volatile NonVolatile range apart = refl
range_kept ranges Volatile Volatile range apart = absurd (apart refl)

-- what is put as it was changes nothing
put_same : (ranges : Ranges) (store : Store) → with_range ranges store (range_in ranges store) ≡ ranges
put_same ranges NonVolatile = refl
put_same ranges Volatile = refl

-- nothing is covered by no ranges
pub none_covered : (store : Store) (at : ℕ) → is_covered no_ranges store at ≡ false
unfolding is_covered no_ranges
none_covered store at = by store (nat_le 0 at)
  where
    empty : (b : Bool) → (b && nat_lt at 0) ≡ false
    empty true = grind (arith, nat_tests)
    empty false = refl

    by : (store : Store) (b : Bool) → is_within (range_in (record { non_volatile = record { from = 0; to = 0 }; volatile = record { from = 0; to = 0 } }) store) at ≡ false
    by NonVolatile b = empty (nat_le 0 at)
    by Volatile b = empty (nat_le 0 at)

-- a whole store is covered
pub whole_covered : (ranges : Ranges) (store : Store) → IsWhole ranges (whole_in ranges store) store
unfolding is_covered whole_in
whole_covered ranges store =
    let all : Range = record { from = 0; to = 65536 } in
    record {
      here = λ at. ap (λ (r : Range). is_within r at) (range_put ranges store all) ∙ first at (nat_lt at 65536);
      there = λ other at apart. ap (λ (r : Range). is_within r at) (range_kept ranges store other all apart);
    }
  where
    first : (at : ℕ) (b : Bool) → (nat_le 0 at && b) ≡ b
    first at b = ap (λ (c : Bool). c && b) (le-leb 0 at (omega arith))

module _ (ranges : Ranges) (store : Store) (from to : ℕ) where
  -- the new offsets
  abbrev more : Range
  more = record { from = from; to = to }

  -- what extended ranges cover is what the span has
  extended_is : (at : ℕ) → is_covered (extended ranges store from to) store at ≡ is_within (spanned (range_in ranges store) more) at
  unfolding is_covered extended
  extended_is at = ap (λ (r : Range). is_within r at) (range_put ranges store (spanned (range_in ranges store) more))

  -- covered or new is in one of the two ranges, and the other way
  either_held : (at : ℕ) → IsHeld ranges store from to at → HasEither (range_in ranges store) more at
  unfolding is_covered
  either_held at held = ⊎_elim (λ old. inl old) (λ new. inr (within more at new.0 new.1)) held

  held_either : (at : ℕ) → HasEither (range_in ranges store) more at → IsHeld ranges store from to at
  unfolding is_covered
  held_either at either = ⊎_elim (λ old. inl old) (λ new. inr (bounds_of more at new)) either

  -- extended ranges are the least
  pub extended_least : IsLeast ranges (extended ranges store from to) store from to
  unfolding is_covered extended
  extended_least = record {
    here = λ at. (
      (λ covered.
          let between = span_least (range_in ranges store) more at (sym (extended_is at) ∙ covered) in
          record {
            low = between.low;
            high = between.high;
            low_held = held_either between.low between.low_held;
            high_held = held_either between.high between.high_held;
            above = between.above;
            below = between.below;
          }),
      (λ spanned_at.
          extended_is at
          ∙ span_between (range_in ranges store) more at (record {
            low = spanned_at.low;
            high = spanned_at.high;
            low_held = either_held spanned_at.low spanned_at.low_held;
            high_held = either_held spanned_at.high spanned_at.high_held;
            above = spanned_at.above;
            below = spanned_at.below;
          })),
    );
    there = λ other at apart. ap (λ (r : Range). is_within r at) (range_kept ranges store other (spanned (range_in ranges store) more) apart);
    none = λ h.
        ap (λ (b : Bool). with_range ranges store (cond b (range_in ranges store) (cond (is_empty_range (range_in ranges store)) more
        (record { from = min (range_in ranges store).from from; to = max (range_in ranges store).to to })))) (le-leb to from h)
        ∙ put_same ranges store;
  }

  -- extended ranges cover what was covered
  pub extended_wider : IsWider ranges (extended ranges store from to)
  unfolding is_covered extended
  extended_wider = record { wider = λ other at covered. by store other at covered }
    where
      by : (store other : Store) (at : ℕ) → is_within (range_in ranges other) at ≡ true
          → is_within (range_in (with_range ranges store (spanned (range_in ranges store) more)) other) at ≡ true
      by NonVolatile NonVolatile at covered = span_holds ranges.non_volatile more at (inl covered)
      by NonVolatile Volatile at covered = covered
      by Volatile NonVolatile at covered = covered
      by Volatile Volatile at covered = span_holds ranges.volatile more at (inl covered)

  -- and the new offsets
  pub extended_covers : (at : ℕ) → from ≤ at → at < to → IsCovered (extended ranges store from to) store at
  extended_covers at low high = extended_is at ∙ span_holds (range_in ranges store) more at (inr (within more at low high))
