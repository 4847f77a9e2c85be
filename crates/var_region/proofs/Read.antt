-- What a record that was read tells of the bytes, and when one is read.
use Rattle.std.proofs.Common.{◌≡◌, ℕ, ◌+◌, ◌*◌, ◌/◌, ◌≤◌, not, Bool, true, false, cond, List, [], ◌∷◌, ◌++◌, length, drop, nat_lt, ltb, ltb-false, le-ltb, refl, sym, ap, subst, ◌∙◌, arith, Some, None, Ok, Err}
use Rattle.var_header.specs.declared.header.Header.{Header}
use Rattle.var_header.specs.declared.header_fault.HeaderFault.TheVariants.{NoStart, PastEnd}
use Rattle.var_header.specs.Header.{has_start_id, header_of, header_read}
use Rattle.var_types.proofs.Records.{record_onward}
use Rattle.var_types.specs.declared.record.Record.{Record}
use Rattle.var_types.specs.Record.{Authenticated, HasRecords, is_bare, next_offset, record_at, record_of, tail_from, whole_size}

-- a record that was read at an offset
pub record IsRead (bytes : List ℕ) (at : ℕ) (r : Record) : Type 0 where
  pub place : r.at ≡ at
  pub header : r.header ≡ header_of (drop at bytes)
  pub start : has_start_id (drop at bytes) ≡ true
  pub room : at + 60 ≤ length bytes
  pub bare : is_bare r.header ≡ not r.whole
  pub fits : r.whole ≡ true → at + whole_size Authenticated r.header ≤ length bytes

module _ (bytes : List ℕ) (at : ℕ) where
  abbrev pub header_here : Header
  header_here = header_of (drop at bytes)

  -- what was read
  read_by : (r : Record) (short start bare past : Bool) → ltb (length bytes) (at + 60) ≡ short → has_start_id (drop at bytes) ≡ start
      → is_bare header_here ≡ bare → ltb (length bytes) (at + whole_size Authenticated header_here) ≡ past
      → cond short None
      (cond start
      (cond bare (Some (record { at = at; header = header_here; whole = false }))
      (cond past None (Some (record { at = at; header = header_here; whole = true })))) None)
      ≡ Some r
      → IsRead bytes at r
  read_by r true start bare past s t b p e = cc
  read_by r false false bare past s t b p e = cc
  read_by r false true true past s t b p e =
      let same : record { at = at; header = header_here; whole = false } ≡ r = cc in
      subst (IsRead bytes at) same
      (record { place = refl; header = refl; start = t; room = ltb-false (length bytes) (at + 60) s; bare = b; fits = λ whole. cc })
  read_by r false true false true s t b p e = cc
  read_by r false true false false s t b p e =
      let same : record { at = at; header = header_here; whole = true } ≡ r = cc in
      subst (IsRead bytes at) same
      (record {
        place = refl;
        header = refl;
        start = t;
        room = ltb-false (length bytes) (at + 60) s;
        bare = b;
        fits = λ whole. ltb-false (length bytes) (at + whole_size Authenticated header_here) p;
      })

  -- the record of what stands there, by tests
  record_by : (short start : Bool) → nat_lt (length bytes) (at + 60) ≡ short → has_start_id (drop at bytes) ≡ start
      → record_at Authenticated bytes at
      ≡ cond short None
      (cond start
      (cond (is_bare header_here) (Some (record { at = at; header = header_here; whole = false }))
      (cond (ltb (length bytes) (at + whole_size Authenticated header_here)) None (Some (record { at = at; header = header_here; whole = true })))) None)
  unfolding record_at header_read
  record_by true start s t = ap (λ b. record_of Authenticated (length bytes) at (cond b (Err (PastEnd at)) (cond (has_start_id (drop at bytes)) (Ok header_here) (Err NoStart)))) s
  record_by false true s t =
      λ i. record_of Authenticated (length bytes) at (cond (s i) (Err (PastEnd at)) (cond (t i) (Ok header_here) (Err NoStart)))
  record_by false false s t =
      λ i. record_of Authenticated (length bytes) at (cond (s i) (Err (PastEnd at)) (cond (t i) (Ok header_here) (Err NoStart)))

  -- a record tells of the bytes
  pub read_of : (r : Record) → record_at Authenticated bytes at ≡ Some r → IsRead bytes at r
  read_of r e =
      read_by r (ltb (length bytes) (at + 60)) (has_start_id (drop at bytes)) (is_bare header_here) (ltb (length bytes) (at + whole_size Authenticated header_here)) refl refl refl refl
      (sym (record_by (ltb (length bytes) (at + 60)) (has_start_id (drop at bytes)) refl refl) ∙ e)

  -- where a whole record stands, it is read
  pub whole_read : (h : Header) → at + whole_size Authenticated h ≤ length bytes → has_start_id (drop at bytes) ≡ true → header_here ≡ h
      → is_bare h ≡ false → record_at Authenticated bytes at ≡ Some (record { at = at; header = h; whole = true })
  whole_read h fits start is full =
      record_by false true (le-ltb (length bytes) (at + 60) (omega arith)) start
      ∙ ap (λ (found : Header). cond (is_bare found) (Some (record { at = at; header = found; whole = false }))
      (cond (ltb (length bytes) (at + whole_size Authenticated found)) None (Some (record { at = at; header = found; whole = true })))) is
      ∙ ap (λ b. cond b (Some (record { at = at; header = h; whole = false }))
      (cond (ltb (length bytes) (at + whole_size Authenticated h)) None (Some (record { at = at; header = h; whole = true })))) full
      ∙ ap (λ b. cond b None (Some (record { at = at; header = h; whole = true }))) (le-ltb (length bytes) (at + whole_size Authenticated h) fits)

  -- where no StartId stands, or no header has room, no record is read
  pub none_read : (at + 60 ≤ length bytes → has_start_id (drop at bytes) ≡ false) → record_at Authenticated bytes at ≡ None
  none_read unstarted = by (ltb (length bytes) (at + 60)) refl
    where
      by : (short : Bool) → ltb (length bytes) (at + 60) ≡ short → record_at Authenticated bytes at ≡ None
      by true s = record_by true (has_start_id (drop at bytes)) s refl
      by false s = record_by false false s (unstarted (ltb-false (length bytes) (at + 60) s))

  -- the offset of a record
  pub place_of : (r : Record) → record_at Authenticated bytes at ≡ Some r → r.at ≡ at
  place_of r e = (read_of r e).place

  -- the next record stands behind the header of a record
  pub next_onward : (r : Record) → record_at Authenticated bytes at ≡ Some r → at + 60 ≤ next_offset Authenticated r
  next_onward r e = (record_onward Authenticated bytes at r e).1

-- the next record stands behind a whole record
pub next_behind : (r : Record) → r.whole ≡ true → r.at + whole_size Authenticated r.header ≤ next_offset Authenticated r
next_behind r whole =
    subst (λ w. r.at + whole_size Authenticated r.header ≤ (r.at + cond w (whole_size Authenticated r.header) 60 + 3) / 4 * 4) (sym whole) (omega arith)

-- records that are read one after the other, whatever stands behind them
abbrev pub AreRead : List ℕ → ℕ → List Record → Type 0
AreRead bytes at [] = Unit {0}
AreRead bytes at (r ∷ rs) = (record_at Authenticated bytes at ≡ Some r) × AreRead bytes (next_offset Authenticated r) rs

module _ (bytes : List ℕ) where
  -- all records are read
  pub read_all : (at : ℕ) (rs : List Record) → HasRecords Authenticated bytes at rs → AreRead bytes at rs
  read_all at [] has = tt
  read_all at (r ∷ rs) has = (has.0, read_all (next_offset Authenticated r) rs has.1)

  -- the first of all records are read
  pub read_front : (at : ℕ) (rs qs : List Record) → HasRecords Authenticated bytes at (rs ++ qs) → AreRead bytes at rs
  read_front at [] qs has = tt
  read_front at (r ∷ rs) qs has = (has.0, read_front (next_offset Authenticated r) rs qs has.1)

  -- the others stand behind them
  pub has_behind : (at : ℕ) (rs qs : List Record) → HasRecords Authenticated bytes at (rs ++ qs) → HasRecords Authenticated bytes (tail_from Authenticated at rs) qs
  has_behind at [] qs has = has
  has_behind at (r ∷ rs) qs has = has_behind (next_offset Authenticated r) rs qs has.1

  -- the tail stands behind where the records begin
  pub tail_onward : (at : ℕ) (rs : List Record) → AreRead bytes at rs → at ≤ tail_from Authenticated at rs
  tail_onward at [] has = omega arith
  tail_onward at (r ∷ rs) has =
      let rest = tail_onward (next_offset Authenticated r) rs has.1 in
      let next = next_onward bytes at r has.0 in
      omega arith
