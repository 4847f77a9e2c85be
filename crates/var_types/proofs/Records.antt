-- Any bytes have exactly one list of records.
use Rattle.std.proofs.Common.{◌≡◌, ℕ, zero, suc, ◌+◌, ◌≤◌, ◌<◌, Bool, true, false, List, [], ◌∷◌, length, drop, refl, subst, arith, ltb, ltb-false, if◌then◌else◌, Option, Some, None, Result, Ok, Err}
use Rattle.var_header.specs.declared.header.Header.{Header}
use Rattle.var_header.specs.declared.header_fault.HeaderFault.{HeaderFault}
use Rattle.var_header.specs.declared.header_fault.HeaderFault.TheVariants.{NoStart, PastEnd}
use Rattle.var_header.specs.Header.{authenticated_header_size, has_start_id, header_of, header_read}
use Rattle.var_types.specs.declared.record.Record.{Record}
use Rattle.var_types.specs.Record.{Authenticated, Form, HasRecords, first_and, header_in, header_size, is_bare, next_offset, record_at, record_of, records, records_within, whole_size}

-- a header that was read is within the bytes
room_by : (bytes : List ℕ) (at : ℕ) (h : Header) (short : Bool) → ltb (length bytes) (at + authenticated_header_size) ≡ short
    → (if short then Err (PastEnd at) else if has_start_id (drop at bytes) then Ok (header_of (drop at bytes)) else Err NoStart) ≡ Ok h
    → at + authenticated_header_size ≤ length bytes
room_by bytes at h true s e = cc
room_by bytes at h false s e = ltb-false (length bytes) (at + authenticated_header_size) s

-- a header that was read is within the bytes
pub read_room : (form : Form) (bytes : List ℕ) (at : ℕ) (h : Header) → header_in form bytes at ≡ Ok h → at + header_size form ≤ length bytes
unfolding header_read
read_room Authenticated bytes at h e = room_by bytes at h (ltb (length bytes) (at + authenticated_header_size)) refl e

-- a header has bytes
header_size_above : (form : Form) → 0 < header_size form
header_size_above Authenticated = omega arith

-- the next record stands behind the header of a record
onward_by : (form : Form) (at : ℕ) (h : Header) (r : Record) (bare past : Bool)
    → (if bare then Some (record { at = at; header = h; whole = false }) else if past then None else Some (record { at = at; header = h; whole = true })) ≡ Some r
    → at + header_size form ≤ next_offset form r
onward_by form at h r true past e =
    let is : record { at = at; header = h; whole = false } ≡ r = cc in
    subst (λ (r : Record). at + header_size form ≤ next_offset form r) is (omega arith)
onward_by form at h r false true e = cc
onward_by form at h r false false e =
    let is : record { at = at; header = h; whole = true } ≡ r = cc in
    subst (λ (r : Record). at + header_size form ≤ next_offset form r) is (omega arith)

-- a record takes its header's bytes of those that are left
onward_of : (form : Form) (bytes : List ℕ) (at : ℕ) (r : Record) (found : Result Header HeaderFault) → header_in form bytes at ≡ found
    → record_of form (length bytes) at found ≡ Some r → (at + header_size form ≤ length bytes) × (at + header_size form ≤ next_offset form r)
onward_of form bytes at r (Err fault) read e = cc
onward_of form bytes at r (Ok h) read e =
    (read_room form bytes at h read, onward_by form at h r (is_bare h) (ltb (length bytes) (at + whole_size form h)) e)

module _ (form : Form) (bytes : List ℕ) where
  -- a record takes its header's bytes of those that are left
  pub record_onward : (at : ℕ) (r : Record) → record_at form bytes at ≡ Some r
      → (at + header_size form ≤ length bytes) × (at + header_size form ≤ next_offset form r)
  unfolding record_at
  record_onward at r e = onward_of form bytes at r (header_in form bytes at) refl e

  -- a record and those behind it are the records from an offset on
  has_step : (n at : ℕ) (found : Option Record) → record_at form bytes at ≡ found
      → ((r : Record) → record_at form bytes at ≡ Some r → HasRecords form bytes (next_offset form r) (records_within n form bytes (next_offset form r)))
      → HasRecords form bytes at (first_and form (records_within n form bytes) found)
  has_step n at None e later = e
  has_step n at (Some r) e later = (e, later r e)

  -- no record stands at the end
  none_past : (at : ℕ) (found : Option Record) → record_at form bytes at ≡ found → length bytes ≤ at → record_at form bytes at ≡ None
  none_past at None e h = e
  none_past at (Some r) e h = absurd (omega (arith, (record_onward at r e).0, header_size_above form))

  -- as many records as there are bytes are all of them
  has_within : (n at : ℕ) → length bytes ≤ at + n → HasRecords form bytes at (records_within n form bytes at)
  has_within zero at h = none_past at (record_at form bytes at) refl (omega arith)
  has_within (suc n) at h =
      has_step n at (record_at form bytes at) refl
      (λ r e. has_within n (next_offset form r) (omega (arith, (record_onward at r e).1, header_size_above form)))

  -- any bytes have their list of records
  pub has_all : (at : ℕ) → HasRecords form bytes at (records form bytes at)
  unfolding records
  has_all at = has_within (suc (length bytes)) at (omega arith)

  -- there is one list of records
  pub one : (at : ℕ) (rs qs : List Record) → HasRecords form bytes at rs → HasRecords form bytes at qs → rs ≡ qs
  one at [] [] h g = refl
  one at [] (q ∷ qs) h g = let e = h in let f = g.0 in cc
  one at (r ∷ rs) [] h g = let e = h.0 in let f = g in cc
  one at (r ∷ rs) (q ∷ qs) h g =
      let e = h.0 in
      let f = g.0 in
      let same : q ≡ r = cc in
      let rest : rs ≡ qs = one (next_offset form r) rs qs h.1 (subst (λ (q : Record). HasRecords form bytes (next_offset form q) qs) same g.1) in
      cc

-- the records from a record on
pub records_first : (form : Form) (bytes : List ℕ) (at : ℕ) (r : Record) → record_at form bytes at ≡ Some r
    → records form bytes at ≡ r ∷ records form bytes (next_offset form r)
records_first form bytes at r e =
    one form bytes at (records form bytes at) (r ∷ records form bytes (next_offset form r)) (has_all form bytes at) (e, has_all form bytes (next_offset form r))

-- the records from where there is none
pub records_none : (form : Form) (bytes : List ℕ) (at : ℕ) → record_at form bytes at ≡ None → records form bytes at ≡ []
records_none form bytes at e = one form bytes at (records form bytes at) [] (has_all form bytes at) e
