-- Bytes that are alike within a range: the same records and live records are read there.
use Rattle.std.proofs.Common.{◌≡◌, ℕ, ◌+◌, ◌-◌, ◌≤◌, ◌<◌, ◌&&◌, ◌||◌, not, Bool, true, false, cond, List, [], ◌∷◌, ◌++◌, length, take, drop, get_or, nat_lt, if◌then◌else◌, refl, sym, ap, ◌∙◌, arith, length-take, length-drop, set, length-set, Option, Some, None, Ok, Err}
use Rattle.std.proofs.lemmas.List.{ext_get_or, get_or-drop, get_or-set_other, get_or-take}
use Rattle.var_header.proofs.Fronts.{same_header, same_start_id}
use Rattle.var_header.specs.declared.header_fault.HeaderFault.TheVariants.{NoStart, PastEnd}
use Rattle.var_header.specs.Header.{header_read}
use Rattle.var_types.specs.Attributes.{has, non_volatile_bit}
use Rattle.var_types.specs.declared.record.Record.{Record}
use Rattle.var_types.specs.declared.record_state.RecordState.{RecordState}
use Rattle.var_types.specs.Live.{data_bytes, live_in_state, live_named, live_of, lives, name_bytes, name_in, with_live}
use Rattle.var_types.specs.Record.{Authenticated, HasRecords, next_offset, record_at, record_of, tail_from, whole_size}
use Rattle.var_types.specs.RecordState.{record_state}
use Rattle.var_region.proofs.Read.{AreRead, next_behind, next_onward, place_of, tail_onward}

-- as many bytes, and the same within a range
pub record IsAlike (from to : ℕ) (old new : List ℕ) : Type 0 where
  pub len : length new ≡ length old
  pub same : (k : ℕ) → from ≤ k → k < to → get_or new k 0 ≡ get_or old k 0

-- the same front
pub alike_front : (to : ℕ) (old new : List ℕ) → length new ≡ length old → take to new ≡ take to old → IsAlike 0 to old new
alike_front to old new len e = record {
  len = len;
  same = λ k h within. sym (get_or-take to new k 0 within) ∙ ap (λ bytes. get_or bytes k 0) e ∙ get_or-take to old k 0 within;
}

-- the same behind an offset
pub alike_back : (from to : ℕ) (old new : List ℕ) → length new ≡ length old → drop from new ≡ drop from old → IsAlike from to old new
alike_back from to old new len e = record { len = len; same = λ k h within. let n : from + (k - from) ≡ k = omega arith in back k n }
  where
    back : (k : ℕ) → from + (k - from) ≡ k → get_or new k 0 ≡ get_or old k 0
    back k n =
        ap (λ j. get_or new j 0) (sym n)
        ∙ sym (get_or-drop from new (k - from) 0)
        ∙ ap (λ bytes. get_or bytes (k - from) 0) e
        ∙ get_or-drop from old (k - from) 0
        ∙ ap (λ j. get_or old j 0) n

-- all but one byte
pub alike_set : (from to i byte : ℕ) (old : List ℕ) → ((k : ℕ) → from ≤ k → k < to → k ≡ i → ⊥) → IsAlike from to old (set old i byte)
alike_set from to i byte old apart = record {
  len = length-set old i byte;
  same = λ k low high. get_or-set_other old i k byte 0 (apart k low high);
}

module _ (from to : ℕ) (old new : List ℕ) (alike : IsAlike from to old new) where
  -- a part within the range
  pub same_part : (m n : ℕ) → from ≤ m → m + n ≤ to → take n (drop m new) ≡ take n (drop m old)
  same_part m n low high =
      let len = alike.len in
      ext_get_or 0 (take n (drop m new)) (take n (drop m old))
      (omega (arith, length-take n (drop m new), length-take n (drop m old), length-drop m new, length-drop m old))
      (λ i within. at i (omega (arith, length-take n (drop m new))))
    where
      at : (i : ℕ) → i < n → get_or (take n (drop m new)) i 0 ≡ get_or (take n (drop m old)) i 0
      at i h =
          get_or-take n (drop m new) i 0 h
          ∙ get_or-drop m new i 0
          ∙ alike.same (m + i) (omega arith) (omega arith)
          ∙ sym (get_or-drop m old i 0)
          ∙ sym (get_or-take n (drop m old) i 0 h)

  -- the record at an offset
  pub same_record : (at : ℕ) → from ≤ at → at + 60 ≤ to → record_at Authenticated new at ≡ record_at Authenticated old at
  unfolding record_at header_read
  same_record at low high =
      let part = same_part at 60 low high in
      let start = same_start_id (drop at new) (drop at old) part in
      let header = same_header (drop at new) (drop at old) part in
      λ i. record_of Authenticated (alike.len i) at
      (if nat_lt (alike.len i) (at + 60) then Err (PastEnd at) else if start i then Ok (header i) else Err NoStart)

  -- the live record that a record within the range is
  pub same_live : (non_volatile : Bool) (r : Record) → from ≤ r.at → (r.whole ≡ true → r.at + whole_size Authenticated r.header ≤ to)
      → live_of Authenticated non_volatile new r ≡ live_of Authenticated non_volatile old r
  unfolding live_of
  same_live nv r low high = by r.whole refl (not nv || has r.header.attributes non_volatile_bit) (record_state r.header.state)
    where
      named : (state : RecordState) (name : Option (List ℕ)) → data_bytes Authenticated new r ≡ data_bytes Authenticated old r
          → live_named Authenticated new r state name ≡ live_named Authenticated old r state name
      named state None e = refl
      named state (Some name) e =
          ap (λ bytes. Some (record {
            at = r.at;
            state = state;
            key = record { guid = record { bytes = r.header.vendor_guid }; name = name };
            variable = record { attributes = r.header.attributes; bytes = bytes; stamp = record { bytes = r.header.time_stamp } };
          })) e

      by : (whole : Bool) → r.whole ≡ whole → (stored : Bool) (state : Option RecordState)
          → cond (whole && stored) (live_in_state Authenticated new r state) None ≡ cond (whole && stored) (live_in_state Authenticated old r state) None
      by false w stored state = refl
      by true w false state = refl
      by true w true None = refl
      by true w true (Some state) =
          let fits = high w in
          let name = same_part (r.at + 60) r.header.name_size (omega arith) (omega arith) in
          let bytes = same_part (r.at + 60 + r.header.name_size) r.header.data_size (omega arith) (omega arith) in
          ap (λ found. live_named Authenticated new r state (name_in found r.header.name_size)) name
          ∙ named state (name_in (name_bytes Authenticated old r) r.header.name_size) bytes

  -- the records within the range, and others behind them
  pub same_records : (at : ℕ) (rs qs : List Record) → from ≤ at → tail_from Authenticated at rs ≤ to → AreRead old at rs
      → HasRecords Authenticated new (tail_from Authenticated at rs) qs → HasRecords Authenticated new at (rs ++ qs)
  same_records at [] qs low high has more = more
  same_records at (r ∷ rs) qs low high has more =
      let next = next_onward old at r has.0 in
      let rest = tail_onward old (next_offset Authenticated r) rs has.1 in
      (same_record at low (omega arith) ∙ has.0, same_records (next_offset Authenticated r) rs qs (omega arith) high has.1 more)

  -- the live records among those within the range
  pub same_lives : (non_volatile : Bool) (at : ℕ) (rs : List Record) → from ≤ at → tail_from Authenticated at rs ≤ to
      → AreRead old at rs → lives Authenticated non_volatile new rs ≡ lives Authenticated non_volatile old rs
  same_lives nv at [] low high has = refl
  same_lives nv at (r ∷ rs) low high has =
      let next = next_onward old at r has.0 in
      let rest = tail_onward old (next_offset Authenticated r) rs has.1 in
      let place : r.at ≡ at = place_of old at r has.0 in
      let here = same_live nv r (omega arith) (λ whole. let behind = next_behind r whole in omega arith) in
      ap (λ found. with_live found (lives Authenticated nv new rs)) here
      ∙ ap (with_live (live_of Authenticated nv old r)) (same_lives nv (next_offset Authenticated r) rs (omega arith) high has.1)

-- where bytes are alike from an offset on, the records from there on are the same
pub same_rest : (from : ℕ) (old new : List ℕ) → ((to : ℕ) → IsAlike from to old new) → (at : ℕ) (rs : List Record) → from ≤ at
    → HasRecords Authenticated old at rs → HasRecords Authenticated new at rs
same_rest from old new alike at [] low has = same_record from (at + 60) old new (alike (at + 60)) at low (omega arith) ∙ has
same_rest from old new alike at (r ∷ rs) low has =
    let next = next_onward old at r has.0 in (
      same_record from (at + 60) old new (alike (at + 60)) at low (omega arith) ∙ has.0,
      same_rest from old new alike (next_offset Authenticated r) rs (omega arith) has.1,
    )
