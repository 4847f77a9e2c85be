-- The bytes of a new record: how many there are, and that they are its header and its body.
use Rattle.std.proofs.Common.{◌≡◌, ℕ, ◌+◌, ◌*◌, ◌<◌, ◌^◌, List, [], ◌∷◌, ◌++◌, length, take, drop, refl, ap, ◌∙◌, arith, length-append}
use Rattle.std.proofs.lemmas.List.Edits.{paste_all}
use Rattle.std.proofs.lemmas.Slice.{put_mid-paste}
use borrow.Rule.Slice.PartMut.{put_mid}
use Rattle.byteorder.specs.Endian.{little_bytes}
use Rattle.byteorder.specs.Numbers.{length-bytes_low_first}
use Rattle.var_header.proofs.Headers.{length-header_bytes}
use Rattle.var_header.specs.Header.{IsHeader, header_bytes}
use Rattle.var_types.proofs.Walks.{length-well_formed}
use Rattle.var_types.specs.Placed.{placed}
use Rattle.var_region.specs.declared.new_record.NewRecord.{NewRecord}
use Rattle.var_region.specs.NewRecord.{IsNew, new_body, new_bytes, new_header, new_size, unit_bytes}

-- a unit has two bytes
pub length-unit_bytes : (units : List ℕ) → length (unit_bytes units) ≡ 2 * length units
length-unit_bytes [] = refl
length-unit_bytes (unit ∷ units) = omega (arith, length-append (little_bytes 2 unit) (unit_bytes units), length-bytes_low_first 0 2 unit, length-unit_bytes units)

-- how many bytes follow the header
pub length-new_body : (new : NewRecord) → length (new_body new) ≡ 2 * length new.name.now + 2 + length new.payload.now
unfolding new_body
length-new_body new =
    omega (arith, length-append (unit_bytes new.name.now ++ (0 ∷ 0 ∷ [])) new.payload.now, length-append (unit_bytes new.name.now) (0 ∷ 0 ∷ []), length-unit_bytes new.name.now)

-- a piece that is written over as many bytes stands among the others
pub placed_piece : (at k : ℕ) (old piece bytes : List ℕ) → piece ≡ bytes → k ≡ length bytes → put_mid at k old piece ≡ placed at bytes old
unfolding placed
placed_piece at k old piece bytes is size =
    put_mid-paste at k old piece bytes k is refl size ∙ paste_all old at bytes k size ∙ ap (λ n. take at old ++ (bytes ++ drop (at + n) old)) size

-- the header of a new record has values of its fields' types
pub IsHeader-new : (state : ℕ) (new : NewRecord) → state < 2 ^ 8 → IsNew new → IsHeader (new_header state new)
IsHeader-new state new small is =
    let name = length-well_formed new.name.now is.can.named in
    let attributes = is.can.attributes in
    let payload = is.can.payload in
    record {
      state = small;
      attributes = omega arith;
      time_stamp = is.values.stamp;
      name_size = omega arith;
      data_size = omega arith;
      vendor_guid = is.values.guid;
    }

-- how many bytes a new record has
pub length-new_bytes : (state : ℕ) (new : NewRecord) → state < 2 ^ 8 → IsNew new → length (new_bytes state new) ≡ new_size new
unfolding new_bytes
length-new_bytes state new small is =
    omega (arith, length-append (header_bytes (new_header state new)) (new_body new), length-header_bytes (new_header state new) [] (IsHeader-new state new small is), length-new_body new)
