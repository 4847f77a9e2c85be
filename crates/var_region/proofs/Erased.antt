-- A region of erased bytes has no records.
use Rattle.std.proofs.Common.{◌≡◌, ℕ, zero, suc, ◌+◌, ◌-◌, ◌<◌, ◌==◌, ◌&&◌, Bool, true, false, List, [], length, drop, refl, ap, ◌∙◌, arith, ltb, ltb-false, if◌then◌else◌, replicate, slice_index, None, Ok, Err}
use Rattle.std.proofs.lemmas.List.{get_or-replicate}
use Rattle.std.specs.List.{list_all}
use Rattle.var_header.specs.declared.header_fault.HeaderFault.TheVariants.{NoStart, PastEnd}
use Rattle.var_header.specs.Header.{authenticated_header_size, has_start_id, header_of, header_read}
use Rattle.var_types.proofs.Records.{records_none}
use Rattle.var_types.specs.Live.{lives}
use Rattle.var_types.specs.Record.{Authenticated, Form, record_at, record_of, records, tail_from}
use Rattle.var_types.specs.Region.{Region, is_tail_clean, map_of, region_lives, region_map, region_records, tail_offset}
use Rattle.var_region.specs.Laws.{AreErasedFrom, IsEmptyRegion}

-- erased bytes begin with no StartId
unstarted : (n : ℕ) → 0 < n → has_start_id (replicate n 0xFF) ≡ false
unfolding has_start_id
unstarted n h =
    ap (λ byte. (byte == 0xAA) && (slice_index (replicate n 0xFF) 1 == 0x55)) (get_or-replicate n 0 0xFF 0 h)

module _ (bytes : List ℕ) (at : ℕ) (erased : AreErasedFrom at bytes) where
  -- no record is read of them
  none_by : (short : Bool) → ltb (length bytes) (at + authenticated_header_size) ≡ short
      → record_of Authenticated (length bytes) at
      (if short then Err (PastEnd at) else if has_start_id (drop at bytes) then Ok (header_of (drop at bytes)) else Err NoStart)
      ≡ None
  none_by true s = refl
  none_by false s =
      let within : 0 < length bytes - at = omega (arith, ltb-false (length bytes) (at + authenticated_header_size) s) in
      rw (ap has_start_id erased ∙ unstarted (length bytes - at) within) refl

  -- no record stands in them
  none_erased : (form : Form) → record_at form bytes at ≡ None
  unfolding record_at header_read
  none_erased Authenticated = none_by (ltb (length bytes) (at + authenticated_header_size)) refl

-- all of them are erased
all_erased : (n : ℕ) → list_all (λ byte. byte == 0xFF) (replicate n 0xFF) ≡ true
all_erased zero = refl
all_erased (suc n) = all_erased n

-- a region that is erased from its first record's offset on is empty
pub IsEmptyRegion-erased : (region : Region) → AreErasedFrom region.first region.bytes → IsEmptyRegion region
unfolding region_lives region_records is_tail_clean map_of region_map tail_offset
IsEmptyRegion-erased region erased =
    let none : records region.form region.bytes region.first ≡ [] =
    records_none region.form region.bytes region.first (none_erased region.bytes region.first erased region.form) in
    let offset : tail_from region.form region.first (records region.form region.bytes region.first) ≡ region.first = ap (tail_from region.form region.first) none in
    record {
      no_records = none;
      no_variables = ap (λ rs. map_of (lives region.form region.non_volatile region.bytes rs)) none;
      offset = offset;
      clean = ap (λ at. list_all (λ byte. byte == 0xFF) (drop at region.bytes)) offset
          ∙ ap (list_all (λ byte. byte == 0xFF)) erased
          ∙ all_erased (length region.bytes - region.first);
    }
