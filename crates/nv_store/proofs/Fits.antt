-- What counts in a region has room in it, since records stand at multiples of 4.
use Rattle.std.proofs.Common.{◌≡◌, ℕ, ◌+◌, ◌-◌, ◌*◌, ◌/◌, ◌%◌, ◌≤◌, Bool, true, false, cond, List, [], ◌∷◌, length, refl, sym, ap, subst, arith, Option, Some, None}
use Rattle.var_types.proofs.Records.{has_all}
use Rattle.var_types.specs.declared.key.Key.{Key}
use Rattle.var_types.specs.declared.record.Record.{Record}
use Rattle.var_types.specs.Live.{Live, live_of, lives, with_live}
use Rattle.var_types.specs.Record.{Authenticated, next_offset, records, tail_from, whole_size}
use Rattle.var_types.specs.Region.{Region, region_lives, region_records}
use Rattle.var_region.proofs.Read.{AreRead, next_onward, read_all, read_of}
use Rattle.var_region.proofs.Stored.{each_region, stored_of}
use Rattle.region_compact.specs.Compacted.{kept_lives, live_room, rooms}
use Rattle.region_compact.proofs.Kept.{kept_fewer}
use Rattle.region_compact.proofs.StoredSizes.{stored_size}

module _ (non_volatile : Bool) (bytes : List ℕ) (even : length bytes % 4 ≡ 0) where
  -- the records end within the bytes
  tail_within : (at : ℕ) (rs : List Record) → at ≤ length bytes → AreRead bytes at rs → tail_from Authenticated at rs ≤ length bytes
  tail_within at [] near has = near
  tail_within at (r ∷ rs) near has = tail_within (next_offset Authenticated r) rs next has.1
    where
      by : (whole : Bool) → r.whole ≡ whole → r.at ≡ at → at + 60 ≤ length bytes → (r.whole ≡ true → at + whole_size Authenticated r.header ≤ length bytes)
          → next_offset Authenticated r ≤ length bytes
      by true w place room fits =
          let fit = fits w in
          subst (λ b. (r.at + cond b (whole_size Authenticated r.header) 60 + 3) / 4 * 4 ≤ length bytes) (sym w) (omega arith)
      by false w place room fits =
          subst (λ b. (r.at + cond b (whole_size Authenticated r.header) 60 + 3) / 4 * 4 ≤ length bytes) (sym w) (omega arith)

      next : next_offset Authenticated r ≤ length bytes
      next = let read = read_of bytes at r has.0 in by r.whole refl read.place read.room read.fits

  -- a next record stands at a multiple of 4
  next_even : (r : Record) → next_offset Authenticated r % 4 ≡ 0
  next_even r = omega arith

  -- the room of live records is at most the bytes of their records
  rooms_within : (at : ℕ) (rs : List Record) → at % 4 ≡ 0 → AreRead bytes at rs
      → rooms (lives Authenticated non_volatile bytes rs) + at ≤ tail_from Authenticated at rs
  rooms_within at [] low has = omega arith
  rooms_within at (r ∷ rs) low has =
      by (live_of Authenticated non_volatile bytes r) refl (rooms_within (next_offset Authenticated r) rs (next_even r) has.1)
    where
      by : (found : Option Live) → live_of Authenticated non_volatile bytes r ≡ found
          → rooms (lives Authenticated non_volatile bytes rs) + next_offset Authenticated r ≤ tail_from Authenticated (next_offset Authenticated r) rs
          → rooms (with_live found (lives Authenticated non_volatile bytes rs)) + at ≤ tail_from Authenticated (next_offset Authenticated r) rs
      by None is rest = let next = next_onward bytes at r has.0 in omega arith
      by (Some live) is rest =
          let read = read_of bytes at r has.0 in
          let stored = stored_of non_volatile bytes r live is in
          let size = stored_size non_volatile bytes at r live read stored in
          let place = read.place in
          let offset : next_offset Authenticated r ≡ (r.at + whole_size Authenticated r.header + 3) / 4 * 4 =
          ap (λ b. (r.at + cond b (whole_size Authenticated r.header) 60 + 3) / 4 * 4) stored.whole in
          let behind : live_room live + at ≤ next_offset Authenticated r = omega arith in
          omega arith

-- all live records of a region take no more room than it has
pub rooms_fit : (region : Region) → length region.bytes % 4 ≡ 0 → region.first % 4 ≡ 0 → region.first ≤ length region.bytes
    → rooms (region_lives region) ≤ length region.bytes - region.first
unfolding region_lives region_records
rooms_fit =
    each_region (λ region. length region.bytes % 4 ≡ 0 → region.first % 4 ≡ 0 → region.first ≤ length region.bytes
    → rooms (region_lives region) ≤ length region.bytes - region.first)
    (λ bytes first nv even low within.
    let read = read_all bytes first (records Authenticated bytes first) (has_all Authenticated bytes first) in
    let near = tail_within nv bytes even first (records Authenticated bytes first) within read in
    let room = rooms_within nv bytes even first (records Authenticated bytes first) low read in
    omega arith)

-- and those kept
pub kept_fit : (region : Region) (replaced : Option Key) → length region.bytes % 4 ≡ 0 → region.first % 4 ≡ 0 → region.first ≤ length region.bytes
    → rooms (kept_lives region replaced) ≤ length region.bytes - region.first
unfolding kept_lives
kept_fit region replaced even low within =
    let every = rooms_fit region even low within in
    let fewer = kept_fewer (region_lives region) replaced (region_lives region) in
    omega arith
