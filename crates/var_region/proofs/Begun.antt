-- Where a new record's header stands at a clean tail, its record is one more, whatever stands in place of its name and data.
use Rattle.std.proofs.Common.{◌≡◌, ℕ, ◌+◌, ◌*◌, ◌≤◌, ◌<◌, ◌==◌, ◌||◌, Bool, true, false, List, [], ◌∷◌, ◌++◌, length, take, drop, refl, sym, ap, subst, ◌∙◌, arith, Some}
use Rattle.std.proofs.lemmas.Bool.{ne_eqb}
use Rattle.std.proofs.lemmas.List.{append-nil}
use Rattle.var_header.proofs.Fronts.{header_taken, start_id_taken}
use Rattle.var_header.proofs.Headers.{read_again, start_id_again}
use Rattle.var_header.specs.declared.header.Header.{Header}
use Rattle.var_header.specs.Header.{IsHeader, has_start_id, header_bytes, header_of}
use Rattle.var_types.proofs.Walks.{length-well_formed}
use Rattle.var_types.specs.declared.record.Record.{Record}
use Rattle.var_types.specs.Live.{live_of, with_live}
use Rattle.var_types.specs.Record.{Authenticated, HasRecords, erased_number, is_bare, is_clean, next_offset, record_at, records, tail_from}
use Rattle.var_types.specs.Region.{Region, is_tail_clean, region_lives, region_records, tail_offset}
use Rattle.var_types.specs.Room.{align4}
use Rattle.var_region.specs.declared.new_record.NewRecord.{NewRecord}
use Rattle.var_region.specs.NewRecord.{IsNew, new_header, new_record, new_size}
use Rattle.var_region.specs.WritingLaws.{BegunRecordsStand, HasOneMore, IsBegun}
use Rattle.var_region.specs.Written.{FitsBehind, with_bytes}
use Rattle.var_region.proofs.Alike.{IsAlike, alike_back, alike_front}
use Rattle.var_region.proofs.NewRecords.{IsHeader-new}
use Rattle.var_region.proofs.Read.{whole_read}
use Rattle.var_region.proofs.Stored.{each_region}
use Rattle.var_region.proofs.Tails.{IsErasedFrom, alike_erased, clean_from, erased_from, lives_behind, none_erased, records_behind, tail-append}

module _ (bytes : List ℕ) (at : ℕ) (h : Header) (is : IsHeader h) (stands : take 60 (drop at bytes) ≡ header_bytes h) where
  -- a header that stands in bytes is read there
  pub header_stands : header_of (drop at bytes) ≡ h
  header_stands =
      sym (header_taken (drop at bytes))
      ∙ ap header_of (stands ∙ sym (append-nil (header_bytes h)))
      ∙ read_again h [] is

  -- and its StartId
  pub start_id_stands : has_start_id (drop at bytes) ≡ true
  start_id_stands =
      sym (start_id_taken (drop at bytes))
      ∙ ap has_start_id (stands ∙ sym (append-nil (header_bytes h)))
      ∙ start_id_again h [] is

-- a new record isn't its header only
pub full_new : (state : ℕ) (new : NewRecord) → IsNew new → state < 0xFF → is_bare (new_header state new) ≡ false
full_new state new is small =
    let name = length-well_formed new.name.now is.can.named in
    let attributes = is.can.attributes in
    let payload = is.can.payload in
    none (state == 0xFF) (2 * length new.name.now + 2 == erased_number) (length new.payload.now == erased_number) (new.attributes == erased_number)
    (ne_eqb state 0xFF (λ e. omega arith))
    (ne_eqb (2 * length new.name.now + 2) erased_number (λ e. omega arith))
    (ne_eqb (length new.payload.now) erased_number (λ e. omega arith))
    (ne_eqb new.attributes erased_number (λ e. omega arith))
  where
    none : (a b c d : Bool) → a ≡ false → b ≡ false → c ≡ false → d ≡ false → (a || b || c || d) ≡ false
    none a b c d p q r s = λ i. p i || q i || r i || s i

module _ (old : List ℕ) (first : ℕ) (non_volatile : Bool) (new : NewRecord) (state : ℕ) (bytes : List ℕ) where
  abbrev pub region : Region
  region = record { form = Authenticated; bytes = old; first = first; non_volatile = non_volatile }

  abbrev pub at : ℕ
  at = tail_from Authenticated first (records Authenticated old first)

  abbrev pub r : Record
  r = new_record at state new

  module _ (fits : FitsBehind region new) (small : state < 0xFF) (begun : IsBegun region state new bytes) where
    -- the tail, by its definition
    offset_is : tail_offset region ≡ at
    unfolding tail_offset region_records
    offset_is = refl

    len : length bytes ≡ length old
    len = begun.outside.len

    room : at + new_size new ≤ length old
    room = subst (λ n. n + new_size new ≤ length old) offset_is fits.room

    erased : IsErasedFrom at old
    unfolding is_tail_clean
    erased = erased_from old at (ap (is_clean old) (sym offset_is) ∙ fits.clean)

    pub begun_alike : IsAlike 0 at old bytes
    begun_alike = alike_front at old bytes len (subst (λ n. take n bytes ≡ take n old) offset_is begun.outside.before)

    begun_erased : IsErasedFrom (at + new_size new) bytes
    begun_erased =
        alike_erased (at + new_size new) (at + new_size new) old bytes
        (alike_back (at + new_size new) (length old) old bytes len (subst (λ n. drop (n + new_size new) bytes ≡ drop (n + new_size new) old) offset_is begun.outside.behind))
        (omega arith) (λ k low high. erased k (omega arith) high)

    -- the new record is read
    pub begun_read : record_at Authenticated bytes at ≡ Some r
    begun_read =
        let is = IsHeader-new state new (omega arith) fits.is in
        let stands = subst (λ n. take 60 (drop n bytes) ≡ header_bytes (new_header state new)) offset_is begun.header in
        whole_read bytes at (new_header state new) (omega (arith, len, room))
        (start_id_stands bytes at (new_header state new) is stands) (header_stands bytes at (new_header state new) is stands)
        (full_new state new fits.is small)

    -- and nothing behind it
    pub begun_has : HasRecords Authenticated bytes at (r ∷ [])
    begun_has = (begun_read, none_erased bytes (at + new_size new) (next_offset Authenticated r) begun_erased (omega arith))

    pub begun_more : HasOneMore region r (new_size new) bytes
    unfolding region_records tail_offset is_tail_clean
    begun_more =
        let all = records_behind old bytes first (r ∷ []) begun_alike begun_has in
        let offset : tail_from Authenticated first (records Authenticated bytes first) ≡ align4 (at + new_size new) =
        ap (tail_from Authenticated first) all ∙ tail-append first (records Authenticated old first) (r ∷ []) ∙ ap align4 (omega arith) in
        record {
          records = all;
          offset = offset;
          clean = ap (is_clean bytes) offset ∙ clean_from bytes (align4 (at + new_size new)) (λ k low high. begun_erased k (omega arith) high);
        }

    -- the live records are those of before, and the new one where it is live
    pub begun_lives : region_lives (with_bytes region bytes) ≡ region_lives region ++ with_live (live_of Authenticated non_volatile bytes r) []
    unfolding region_lives region_records
    begun_lives = lives_behind old bytes first non_volatile (r ∷ []) begun_alike begun_has

pub BegunRecordsStand-all : BegunRecordsStand
unfolding tail_offset region_records
BegunRecordsStand-all =
    each_region (λ region. (new : NewRecord) (state : ℕ) (bytes : List ℕ) → FitsBehind region new → state < 0xFF → IsBegun region state new bytes
    → HasOneMore region (new_record (tail_offset region) state new) (new_size new) bytes)
    (λ old first nv new state bytes fits small begun. begun_more old first nv new state bytes fits small begun)
