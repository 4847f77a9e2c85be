-- The bytes and the maps of a new record's steps.
use Rattle.std.proofs.Common.{◌≡◌, inl, inr, ⊎_elim, ℕ, ◌+◌, ◌≤◌, ◌<◌, ◌==◌, true, List, [], ◌++◌, length, drop, get_or, set, None, refl, sym, ap, subst, ◌∙◌, arith}
use Rattle.std.proofs.Math.ListN.{get_or-append}
use Rattle.std.specs.List.{list_all}
use Rattle.var_header.proofs.Headers.{length-header_bytes}
use Rattle.var_header.specs.Header.{header_bytes}
use Rattle.var_types.proofs.Placed.{before_placed, behind_placed, length-placed}
use Rattle.var_types.specs.declared.key.Key.{Key}
use Rattle.var_types.specs.declared.store.Store.TheVariants.{NonVolatile}
use Rattle.var_types.specs.declared.variable.Variable.{Variable}
use Rattle.var_types.specs.Placed.{IsOutsideKept, placed}
use Rattle.var_types.specs.Record.{is_clean}
use Rattle.var_types.specs.RecordState.{record_state}
use Rattle.var_types.specs.Region.{Region, is_tail_clean, map_of, region_lives, region_map, tail_offset}
use Rattle.var_types.specs.Stores.{map_in, store_region}
use Rattle.var_region.proofs.NewRecords.{IsHeader-new, length-new_bytes}
use Rattle.var_region.proofs.Steps.{BodiesKeepTheHeader-all, HeadersBegin-all, StepsLeaveTheirBytes-all, begun_whole}
use Rattle.var_region.proofs.Tails.{clean_from, erased_from}
use Rattle.var_region.proofs.Torn.{TornBodiesChangeNoVariable-all, TornHeadersChangeNoVariable-all}
use Rattle.var_region.specs.declared.new_record.NewRecord.{NewRecord}
use Rattle.var_region.specs.NewRecord.{new_body, new_bytes, new_header, new_size}
use Rattle.var_region.specs.Written.{FitsBehind, with_bytes}
use Rattle.nv_store.specs.StepsLeft.{IsEither, IsHeaderTorn, IsMapAs, IsMapOr}
use Rattle.nv_store.proofs.Appended.{tail_low}
use Rattle.nv_store.proofs.Pieces.{state_byte_of}
use Rattle.nv_store.proofs.Ranges.{placed_within}

-- bytes that are one of two with the same map
pub either_map : (old x y : List ℕ) → IsMapAs old x → IsMapAs old y → (v : List ℕ) → IsEither x y v → IsMapAs old v
either_map old x y a b v = ⊎_elim (λ e. ap (map_in NonVolatile) e ∙ a) (λ e. ap (map_in NonVolatile) e ∙ b)

-- bytes that are one of two, the second of which has a change
pub either_change : (change : List (Key × Variable) → List (Key × Variable)) (old x y : List ℕ) → IsMapAs old x → map_in NonVolatile y ≡ change (map_in NonVolatile old)
    → (v : List ℕ) → IsEither x y v → IsMapOr change old v
either_change change old x y a b v = ⊎_elim (λ e. inl (ap (map_in NonVolatile) e ∙ a)) (λ e. inr (ap (map_in NonVolatile) e ∙ b))

module _ (old : List ℕ) (new : NewRecord) (fits : FitsBehind (store_region NonVolatile old) new) where
  abbrev region : Region
  region = store_region NonVolatile old

  abbrev tail : ℕ
  tail = tail_offset region

  abbrev header : ℕ → List ℕ
  header state = header_bytes (new_header state new)

  pub low : 100 ≤ tail
  low = tail_low region

  pub clean_tail : is_clean old tail ≡ true
  unfolding is_tail_clean
  clean_tail = fits.clean

  -- bytes with the same live records have the same map
  same_map : (v : List ℕ) → region_lives (with_bytes region v) ≡ region_lives region → IsMapAs old v
  unfolding map_in region_map
  same_map v lives = ap map_of lives

  -- a header that was programmed in part
  pub torn_map : (v : List ℕ) → IsHeaderTorn tail old v → IsMapAs old v
  torn_map v is = same_map v (TornHeadersChangeNoVariable-all region v fits.clean is.outside (ap record_state is.state))

  module _ (state : ℕ) (small : state < 256) where
    header_size : length (header state) ≡ 60
    header_size = length-header_bytes (new_header state new) [] (IsHeader-new state new small fits.is)

    header_room : tail + length (header state) ≤ length old
    header_room = let fit = fits.room in omega (arith, header_size)

    -- the state byte of a header that was written
    pub header_byte : get_or (placed tail (header state) old) (tail + 2) 0 ≡ state
    header_byte = placed_within tail (header state) old header_room 2 (omega (arith, header_size)) ∙ state_byte_of (new_header state new)

    header_outside : IsOutsideKept tail (tail + 60) old (placed tail (header state) old)
    header_outside = record {
      len = length-placed tail (header state) old header_room;
      before = before_placed tail (header state) old header_room;
      behind = subst (λ n. drop (tail + n) (placed tail (header state) old) ≡ drop (tail + n) old) header_size (behind_placed tail (header state) old header_room);
    }

    pub header_len : length (placed tail (header state) old) ≡ length old
    header_len = length-placed tail (header state) old header_room

    -- a header in a state that says nothing
    pub header_map : record_state state ≡ None → IsMapAs old (placed tail (header state) old)
    header_map none =
        same_map (placed tail (header state) old)
        (TornHeadersChangeNoVariable-all region (placed tail (header state) old) fits.clean header_outside (ap record_state header_byte ∙ none))

    -- the bytes behind it are erased
    pub header_clean : is_clean (placed tail (header state) old) (tail + 60) ≡ true
    header_clean =
        ap (list_all (λ b. b == 0xFF)) header_outside.behind
        ∙ clean_from old (tail + 60) (λ k low high. erased_from old tail clean_tail k (omega arith) high)

    -- the next state of a header
    pub header_next : (next : ℕ) → set (placed tail (header state) old) (tail + 2) next ≡ placed tail (header next) old
    header_next next = (StepsLeaveTheirBytes-all region new state next fits small).header

  -- the record with its name and data
  pub body_is : placed (tail + 60) (new_body new) (placed tail (header 0x7F) old) ≡ placed tail (new_bytes 0x7F new) old
  body_is = (StepsLeaveTheirBytes-all region new 0x7F 0x3F fits (omega arith)).body

  pub added_is : set (placed tail (new_bytes 0x7F new) old) (tail + 2) 0x3F ≡ placed tail (new_bytes 0x3F new) old
  added_is = (StepsLeaveTheirBytes-all region new 0x7F 0x3F fits (omega arith)).whole

  -- a name and data that were programmed in part
  pub body_map : (v : List ℕ) → IsOutsideKept (tail + 60) (tail + new_size new) (placed tail (header 0x7F) old) v → IsMapAs old v
  body_map v kept =
      same_map v
      (TornBodiesChangeNoVariable-all region new 0x7F v fits (omega arith) refl
      (BodiesKeepTheHeader-all region new 0x7F (placed tail (header 0x7F) old) v fits (HeadersBegin-all region new 0x7F fits (omega arith)) kept))

  -- the whole record before it is ADDED
  pub whole_map : IsMapAs old (placed tail (new_bytes 0x7F new) old)
  whole_map =
      same_map (placed tail (new_bytes 0x7F new) old)
      (TornBodiesChangeNoVariable-all region new 0x7F (placed tail (new_bytes 0x7F new) old) fits (omega arith) refl (begun_whole region new 0x7F fits (omega arith)))

  -- its state byte
  pub whole_byte : get_or (placed tail (new_bytes 0x7F new) old) (tail + 2) 0 ≡ 0x7F
  unfolding new_bytes
  whole_byte =
      let size = length-new_bytes 0x7F new (omega arith) fits.is in
      let fit = fits.room in
      placed_within tail (header 0x7F ++ new_body new) old (omega (arith, size)) 2 (omega (arith, size))
      ∙ get_or-append (header 0x7F) (new_body new) 0 2 (omega (arith, header_size 0x7F (omega arith)))
      ∙ state_byte_of (new_header 0x7F new)

-- the same at an offset that is the tail's
module _ (old : List ℕ) (new : NewRecord) (fits : FitsBehind (store_region NonVolatile old) new) (at : ℕ) (place : at ≡ tail_offset (store_region NonVolatile old)) where
  pub at_low : 100 ≤ at
  at_low = omega (arith, low old new fits, place)

  pub at_clean : is_clean old at ≡ true
  at_clean = ap (is_clean old) place ∙ clean_tail old new fits

  pub at_torn : (v : List ℕ) → IsHeaderTorn at old v → IsMapAs old v
  at_torn v is = torn_map old new fits v (subst (λ n. IsHeaderTorn n old v) place is)

  -- the header was written
  module _ (bytes : List ℕ) (is : bytes ≡ placed at (header_bytes (new_header 0xFF new)) old) where
    here : bytes ≡ placed (tail_offset (store_region NonVolatile old)) (header_bytes (new_header 0xFF new)) old
    here = is ∙ ap (λ n. placed n (header_bytes (new_header 0xFF new)) old) place

    pub begun_byte : get_or bytes (at + 2) 0 ≡ 0xFF
    begun_byte = (λ i. get_or (here i) (place i + 2) 0) ∙ header_byte old new fits 0xFF (omega arith)

    pub begun_next : set bytes (at + 2) 0x7F ≡ placed at (header_bytes (new_header 0x7F new)) old
    begun_next =
        (λ i. set (here i) (place i + 2) 0x7F)
        ∙ header_next old new fits 0xFF (omega arith) 0x7F
        ∙ ap (λ n. placed n (header_bytes (new_header 0x7F new)) old) (sym place)

    pub begun_either : (v : List ℕ) → IsEither bytes (set bytes (at + 2) 0x7F) v → IsMapAs old v
    begun_either =
        either_map old bytes (set bytes (at + 2) 0x7F)
        (ap (map_in NonVolatile) here ∙ header_map old new fits 0xFF (omega arith) refl)
        (ap (map_in NonVolatile) ((λ i. set (here i) (place i + 2) 0x7F) ∙ header_next old new fits 0xFF (omega arith) 0x7F)
        ∙ header_map old new fits 0x7F (omega arith) refl)

  -- the record was begun
  module _ (bytes : List ℕ) (is : bytes ≡ placed at (header_bytes (new_header 0x7F new)) old) where
    there : bytes ≡ placed (tail_offset (store_region NonVolatile old)) (header_bytes (new_header 0x7F new)) old
    there = is ∙ ap (λ n. placed n (header_bytes (new_header 0x7F new)) old) place

    pub body_clean : is_clean bytes (at + 60) ≡ true
    body_clean = (λ i. is_clean (there i) (place i + 60)) ∙ header_clean old new fits 0x7F (omega arith)

    pub body_torn : (v : List ℕ) → IsOutsideKept (at + 60) (at + new_size new) bytes v → IsMapAs old v
    body_torn v kept =
        body_map old new fits v (subst (λ b. IsOutsideKept (tail_offset (store_region NonVolatile old) + 60) (tail_offset (store_region NonVolatile old) + new_size new) b v) there
        (subst (λ n. IsOutsideKept (n + 60) (n + new_size new) bytes v) place kept))

    module _ (next : List ℕ) (body : next ≡ placed (at + 60) (new_body new) bytes) where
      whole : next ≡ placed (tail_offset (store_region NonVolatile old)) (new_bytes 0x7F new) old
      whole = body ∙ (λ i. placed (place i + 60) (new_body new) (there i)) ∙ body_is old new fits

      pub next_byte : get_or next (at + 2) 0 ≡ 0x7F
      next_byte = (λ i. get_or (whole i) (place i + 2) 0) ∙ whole_byte old new fits

      pub added_next : set next (at + 2) 0x3F ≡ placed (tail_offset (store_region NonVolatile old)) (new_bytes 0x3F new) old
      added_next = (λ i. set (whole i) (place i + 2) 0x3F) ∙ added_is old new fits

      pub next_map : IsMapAs old next
      next_map = ap (map_in NonVolatile) whole ∙ whole_map old new fits
