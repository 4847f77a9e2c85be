-- The live records that are kept, one by one, and how much room they take at most.
use Rattle.std.proofs.Common.{◌≡◌, ℕ, ◌+◌, ◌*◌, ◌/◌, ◌%◌, ◌≤◌, Bool, true, false, cond, List, [], ◌∷◌, ◌++◌, length, refl, sym, subst, arith, Option, Some, None}
use Rattle.var_types.proofs.Records.{has_all}
use Rattle.var_types.specs.declared.key.Key.{Key}
use Rattle.var_types.specs.declared.record.Record.{Record}
use Rattle.var_types.specs.Live.{Live, live_of, lives, with_live}
use Rattle.var_types.specs.Record.{Authenticated, next_offset, records, tail_from, whole_size}
use Rattle.var_types.specs.Region.{Region, region_lives, region_records}
use Rattle.var_region.proofs.Read.{AreRead, next_behind, next_onward, read_all, read_of}
use Rattle.var_region.proofs.Stored.{each_region, stored_of}
use Rattle.region_compact.specs.Compacted.{copied, copies, is_kept, kept_lives, kept_of, live_room, live_size, rooms}
use Rattle.region_compact.proofs.StoredSizes.{stored_size}

module _ (all : List Live) (replaced : Option Key) where
  -- the room of those kept from one on
  pub rooms_first : (live : Live) (ls : List Live)
      → rooms (kept_of all replaced (live ∷ ls)) ≡ cond (is_kept all replaced live) (live_room live) 0 + rooms (kept_of all replaced ls)
  rooms_first live ls = by (is_kept all replaced live)
    where
      by : (kept : Bool) → rooms (cond kept (live ∷ kept_of all replaced ls) (kept_of all replaced ls)) ≡ cond kept (live_room live) 0 + rooms (kept_of all replaced ls)
      by true = refl
      by false = omega arith

  -- the copies of those kept from one on
  pub copies_first : (bytes : List ℕ) (live : Live) (ls : List Live)
      → copies bytes (kept_of all replaced (live ∷ ls)) ≡ cond (is_kept all replaced live) (copied bytes live) [] ++ copies bytes (kept_of all replaced ls)
  copies_first bytes live ls = by (is_kept all replaced live)
    where
      by : (kept : Bool)
          → copies bytes (cond kept (live ∷ kept_of all replaced ls) (kept_of all replaced ls)) ≡ cond kept (copied bytes live) [] ++ copies bytes (kept_of all replaced ls)
      by true = refl
      by false = refl

  -- those kept take no more room than all
  pub kept_fewer : (ls : List Live) → rooms (kept_of all replaced ls) ≤ rooms ls
  kept_fewer [] = omega arith
  kept_fewer (live ∷ ls) = by (is_kept all replaced live) (kept_fewer ls)
    where
      by : (kept : Bool) → rooms (kept_of all replaced ls) ≤ rooms ls
          → rooms (cond kept (live ∷ kept_of all replaced ls) (kept_of all replaced ls)) ≤ live_room live + rooms ls
      by true h = omega arith
      by false h = omega arith

module _ (non_volatile : Bool) (bytes : List ℕ) where
  -- the records end at most 3 bytes past the end
  tail_near : (at : ℕ) (rs : List Record) → at ≤ length bytes + 3 → AreRead bytes at rs → tail_from Authenticated at rs ≤ length bytes + 3
  tail_near at [] near has = near
  tail_near at (r ∷ rs) near has = tail_near (next_offset Authenticated r) rs next has.1
    where
      near_by : (whole : Bool) → r.whole ≡ whole → r.at ≡ at → at + 60 ≤ length bytes → (r.whole ≡ true → at + whole_size Authenticated r.header ≤ length bytes)
          → next_offset Authenticated r ≤ length bytes + 3
      near_by true w place room fits =
          let fit = fits w in
          subst (λ b. (r.at + cond b (whole_size Authenticated r.header) 60 + 3) / 4 * 4 ≤ length bytes + 3) (sym w) (omega arith)
      near_by false w place room fits =
          subst (λ b. (r.at + cond b (whole_size Authenticated r.header) 60 + 3) / 4 * 4 ≤ length bytes + 3) (sym w) (omega arith)

      next : next_offset Authenticated r ≤ length bytes + 3
      next = let read = read_of bytes at r has.0 in near_by r.whole refl read.place read.room read.fits

  -- the room of live records is at most twice the bytes of their records
  rooms_near : (at : ℕ) (rs : List Record) → AreRead bytes at rs
      → rooms (lives Authenticated non_volatile bytes rs) + 2 * at ≤ 2 * tail_from Authenticated at rs
  rooms_near at [] has = omega arith
  rooms_near at (r ∷ rs) has = by (live_of Authenticated non_volatile bytes r) refl (rooms_near (next_offset Authenticated r) rs has.1)
    where
      by : (found : Option Live) → live_of Authenticated non_volatile bytes r ≡ found
          → rooms (lives Authenticated non_volatile bytes rs) + 2 * next_offset Authenticated r ≤ 2 * tail_from Authenticated (next_offset Authenticated r) rs
          → rooms (with_live found (lives Authenticated non_volatile bytes rs)) + 2 * at ≤ 2 * tail_from Authenticated (next_offset Authenticated r) rs
      by None is rest = let next = next_onward bytes at r has.0 in omega arith
      by (Some live) is rest =
          let read = read_of bytes at r has.0 in
          let stored = stored_of non_volatile bytes r live is in
          let size = stored_size non_volatile bytes at r live read stored in
          let place = read.place in
          let behind = next_behind r stored.whole in
          let room : live_room live ≤ live_size live + 3 = omega arith in
          let some : 60 ≤ whole_size Authenticated r.header = omega arith in
          omega arith

-- all live records of a region take at most so much room
pub every_few : (region : Region) → length region.bytes ≤ 65536 → region.first ≤ length region.bytes → rooms (region_lives region) ≤ 131078
unfolding region_lives region_records
every_few =
    each_region (λ region. length region.bytes ≤ 65536 → region.first ≤ length region.bytes → rooms (region_lives region) ≤ 131078)
    (λ bytes first nv few low.
    let read = read_all bytes first (records Authenticated bytes first) (has_all Authenticated bytes first) in
    let near = tail_near nv bytes first (records Authenticated bytes first) (omega arith) read in
    let room = rooms_near nv bytes first (records Authenticated bytes first) read in
    omega arith)

-- and those kept
pub rooms_few : (region : Region) (replaced : Option Key) → length region.bytes ≤ 65536 → region.first ≤ length region.bytes
    → rooms (kept_lives region replaced) ≤ 131078
unfolding kept_lives
rooms_few region replaced few low =
    let every = every_few region few low in
    let fewer = kept_fewer (region_lives region) replaced (region_lives region) in
    omega arith

-- the next record stands at a multiple of 4
next_aligned : (r : Record) → next_offset Authenticated r % 4 ≡ 0
next_aligned r = by (r.at + cond r.whole (whole_size Authenticated r.header) 60)
  where
    by : (n : ℕ) → ((n + 3) / 4 * 4) % 4 ≡ 0
    by n = omega arith

module _ (non_volatile : Bool) (bytes : List ℕ) where
  tail_aligned : (at : ℕ) (rs : List Record) → at % 4 ≡ 0 → tail_from Authenticated at rs % 4 ≡ 0
  tail_aligned at [] aligned = aligned
  tail_aligned at (r ∷ rs) aligned = tail_aligned (next_offset Authenticated r) rs (next_aligned r)

  -- the room of live records from a multiple of 4 on is within the bytes of their records
  rooms_within : (at : ℕ) (rs : List Record) → at % 4 ≡ 0 → AreRead bytes at rs
      → rooms (lives Authenticated non_volatile bytes rs) + at ≤ tail_from Authenticated at rs
  rooms_within at [] aligned has = omega arith
  rooms_within at (r ∷ rs) aligned has =
      by (live_of Authenticated non_volatile bytes r) refl (rooms_within (next_offset Authenticated r) rs (next_aligned r) has.1)
    where
      by : (found : Option Live) → live_of Authenticated non_volatile bytes r ≡ found
          → rooms (lives Authenticated non_volatile bytes rs) + next_offset Authenticated r ≤ tail_from Authenticated (next_offset Authenticated r) rs
          → rooms (with_live found (lives Authenticated non_volatile bytes rs)) + at ≤ tail_from Authenticated (next_offset Authenticated r) rs
      by None is rest = let next = next_onward bytes at r has.0 in omega arith
      by (Some live) is rest =
          let read = read_of bytes at r has.0 in
          let stored = stored_of non_volatile bytes r live is in
          let size = stored_size non_volatile bytes at r live read stored in
          let place = read.place in
          let behind = next_behind r stored.whole in
          omega arith

-- the room of the variables of a region of whole multiples of 4 is within what stands behind its first record's offset
every_within : (region : Region) → region.first % 4 ≡ 0 → length region.bytes % 4 ≡ 0 → region.first ≤ length region.bytes
    → rooms (region_lives region) + region.first ≤ length region.bytes
unfolding region_lives region_records
every_within =
    each_region (λ region. region.first % 4 ≡ 0 → length region.bytes % 4 ≡ 0 → region.first ≤ length region.bytes
    → rooms (region_lives region) + region.first ≤ length region.bytes)
    (λ bytes first nv aligned whole low.
    let read = read_all bytes first (records Authenticated bytes first) (has_all Authenticated bytes first) in
    let near = tail_near nv bytes first (records Authenticated bytes first) (omega arith) read in
    let tail = tail_aligned nv bytes first (records Authenticated bytes first) aligned in
    let room = rooms_within nv bytes first (records Authenticated bytes first) aligned read in
    omega arith)

pub kept_within : (region : Region) (replaced : Option Key) → region.first % 4 ≡ 0 → length region.bytes % 4 ≡ 0 → region.first ≤ length region.bytes
    → rooms (kept_lives region replaced) + region.first ≤ length region.bytes
unfolding kept_lives
kept_within region replaced aligned whole low =
    let every = every_within region aligned whole low in
    let fewer = kept_fewer (region_lives region) replaced (region_lives region) in
    omega arith
