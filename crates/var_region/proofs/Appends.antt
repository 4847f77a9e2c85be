-- An append at a clean tail adds one record, and puts its variable into the map.
use Rattle.std.proofs.Common.{◌≡◌, ℕ, ◌+◌, ◌*◌, ◌≤◌, ◌<◌, ◌||◌, not, Bool, true, false, List, [], ◌∷◌, ◌++◌, length, take, drop, refl, sym, ap, ◌∙◌, arith, append_assoc, length-append, Some}
use Rattle.std.proofs.lemmas.List.{drop-drop, drop_at, take_at}
use Rattle.var_header.proofs.Headers.{length-header_bytes}
use Rattle.var_header.specs.Header.{header_bytes}
use Rattle.var_types.proofs.Placed.{here_placed}
use Rattle.var_types.specs.Attributes.{has, non_volatile_bit}
use Rattle.var_types.specs.Live.{data_bytes, live_of, name_bytes, name_in, with_live}
use Rattle.var_types.specs.Placed.{placed}
use Rattle.var_types.specs.Record.{Authenticated}
use Rattle.var_types.specs.Region.{Region, map_of, region_lives, region_map, region_records, tail_offset}
use Rattle.var_region.specs.declared.new_record.NewRecord.{NewRecord}
use Rattle.var_region.specs.NewRecord.{IsNew, IsOfStore, new_body, new_bytes, new_header, new_live, new_record, new_variable, unit_bytes}
use Rattle.var_region.specs.WritingLaws.{AppendsAddOneLiveRecord, AppendsAddOneRecord, AppendsPutTheirVariable}
use Rattle.var_region.specs.Written.{FitsBehind, appended}
use Rattle.var_region.proofs.Begun.{BegunRecordsStand-all, begun_lives}
use Rattle.var_region.proofs.Names.{name_again}
use Rattle.var_region.proofs.NewRecords.{IsHeader-new, length-new_bytes, length-unit_bytes}
use Rattle.var_region.proofs.Steps.{begun_whole}
use Rattle.var_region.proofs.Stored.{each_region, live_from}
use Rattle.var_region.proofs.WhichCounts.{AddedPutTheirVariable-all}

pub AppendsAddOneRecord-all : AppendsAddOneRecord
AppendsAddOneRecord-all region new state fits small =
    BegunRecordsStand-all region new state (placed (tail_offset region) (new_bytes state new) region.bytes) fits small
    (begun_whole region new state fits (omega arith))

-- a record of its store
pub of_store : (non_volatile : Bool) (new : NewRecord) → IsOfStore non_volatile new → (not non_volatile || has new.attributes non_volatile_bit) ≡ true
of_store true new h = h refl
of_store false new h = refl

module _ (at state : ℕ) (new : NewRecord) (is : IsNew new) (small : state < 256) (bytes rest : List ℕ) (stands : drop at bytes ≡ new_bytes state new ++ rest) where
  abbrev name : List ℕ
  name = unit_bytes new.name.now ++ (0 ∷ 0 ∷ [])

  length_name : length name ≡ 2 * length new.name.now + 2
  length_name = omega (arith, length-append (unit_bytes new.name.now) (0 ∷ 0 ∷ []), length-unit_bytes new.name.now)

  -- what follows the header
  body_stands : drop (at + 60) bytes ≡ name ++ (new.payload.now ++ rest)
  unfolding new_bytes new_body
  body_stands =
      let head = header_bytes (new_header state new) in
      sym (drop-drop 60 at bytes)
      ∙ ap (drop 60) (stands ∙ append_assoc head (new_body new) rest)
      ∙ drop_at head (new_body new ++ rest) 60 (length-header_bytes (new_header state new) [] (IsHeader-new state new small is))
      ∙ append_assoc name new.payload.now rest

  -- the name and the data of the record
  pub name_stands : name_bytes Authenticated bytes (new_record at state new) ≡ name
  name_stands = ap (take (2 * length new.name.now + 2)) body_stands ∙ take_at name (new.payload.now ++ rest) (2 * length new.name.now + 2) length_name

  pub data_stands : data_bytes Authenticated bytes (new_record at state new) ≡ new.payload.now
  data_stands =
      ap (take (length new.payload.now)) (
      sym (drop-drop (2 * length new.name.now + 2) (at + 60) bytes)
      ∙ ap (drop (2 * length new.name.now + 2)) body_stands
      ∙ drop_at name (new.payload.now ++ rest) (2 * length new.name.now + 2) length_name
      )
      ∙ take_at new.payload.now rest (length new.payload.now) refl

-- a new record is live once it is ADDED
pub new_lives : (non_volatile : Bool) (at : ℕ) (new : NewRecord) → IsNew new → IsOfStore non_volatile new → (bytes rest : List ℕ)
    → drop at bytes ≡ new_bytes 0x3F new ++ rest → live_of Authenticated non_volatile bytes (new_record at 0x3F new) ≡ Some (new_live at new)
new_lives nv at new is of bytes rest stands =
    let name = ap (λ found. name_in found (2 * length new.name.now + 2)) (name_stands at 0x3F new is (omega arith) bytes rest stands)
    ∙ name_again new.name.now is.can.named is.values.units in
    live_from nv bytes (new_record at 0x3F new) new.name.now refl (of_store nv new of) name
    ∙ ap (λ found. Some (record (new_live at new) { variable = record (new_variable new) { bytes = found } })) (data_stands at 0x3F new is (omega arith) bytes rest stands)

-- an append adds one live record
added_live : (old : List ℕ) (first : ℕ) (non_volatile : Bool) (new : NewRecord)
    → FitsBehind (record { form = Authenticated; bytes = old; first = first; non_volatile = non_volatile }) new → IsOfStore non_volatile new
    → region_lives (appended 0x3F (record { form = Authenticated; bytes = old; first = first; non_volatile = non_volatile }) new)
    ≡ region_lives (record { form = Authenticated; bytes = old; first = first; non_volatile = non_volatile })
    ++ (new_live (tail_offset (record { form = Authenticated; bytes = old; first = first; non_volatile = non_volatile })) new ∷ [])
unfolding tail_offset region_records
added_live old first nv new fits of =
    let region : Region = record { form = Authenticated; bytes = old; first = first; non_volatile = nv } in
    let at = tail_offset region in
    let xs = new_bytes 0x3F new in
    let bytes = placed at xs old in
    let fit = fits.room in
    let room : at + length xs ≤ length old = omega (arith, length-new_bytes 0x3F new (omega arith) fits.is) in
    begun_lives old first nv new 0x3F bytes fits (omega arith) (begun_whole region new 0x3F fits (omega arith))
    ∙ ap (λ found. region_lives region ++ with_live found []) (new_lives nv at new fits.is of bytes (drop (at + length xs) old) (here_placed at xs old room))

pub AppendsAddOneLiveRecord-all : AppendsAddOneLiveRecord
AppendsAddOneLiveRecord-all =
    each_region (λ region. (new : NewRecord) → FitsBehind region new → IsOfStore region.non_volatile new
    → region_lives (appended 0x3F region new) ≡ region_lives region ++ (new_live (tail_offset region) new ∷ []))
    added_live

pub AppendsPutTheirVariable-all : AppendsPutTheirVariable
unfolding region_map
AppendsPutTheirVariable-all region new fits of none =
    ap map_of (AppendsAddOneLiveRecord-all region new fits of)
    ∙ AddedPutTheirVariable-all (region_lives region) (new_live (tail_offset region) new) refl none
