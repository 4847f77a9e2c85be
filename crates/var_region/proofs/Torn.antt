-- What a header, or a name and data, that were programmed in part leave: no live record.
use Rattle.std.proofs.Common.{◌≡◌, ◌⊎◌, inl, inr, ℕ, ◌+◌, ◌<◌, ◌==◌, ◌||◌, not, Bool, true, false, List, [], ◌∷◌, ◌++◌, length, drop, get_or, refl, sym, ap, ◌∙◌, arith, Option, None, Some}
use Rattle.std.proofs.lemmas.List.{append-nil, get_or-drop}
use Rattle.var_header.proofs.Fronts.{state_of}
use Rattle.var_header.specs.declared.header.Header.{Header}
use Rattle.var_types.specs.declared.record.Record.{Record}
use Rattle.var_types.specs.Live.{lives, with_live}
use Rattle.var_types.specs.Placed.{IsOutsideKept}
use Rattle.var_types.specs.Record.{Authenticated, HasRecords, erased_number, is_bare, is_clean, next_offset, record_at, records, tail_from}
use Rattle.var_types.specs.RecordState.{record_state}
use Rattle.var_types.specs.Region.{is_tail_clean, region_lives, region_records, tail_offset}
use Rattle.var_region.specs.declared.new_record.NewRecord.{NewRecord}
use Rattle.var_region.specs.WritingLaws.{IsBegun, TornBodiesChangeNoVariable, TornHeadersAreHeadersAtMost, TornHeadersChangeNoVariable}
use Rattle.var_region.specs.Written.{FitsBehind, with_bytes}
use Rattle.var_region.proofs.Alike.{IsAlike, alike_back, alike_front}
use Rattle.var_region.proofs.Begun.{begun_lives, r}
use Rattle.var_region.proofs.Read.{next_onward, read_of}
use Rattle.var_region.proofs.Stored.{each_region, live_none}
use Rattle.var_region.proofs.Tails.{IsErasedFrom, alike_erased, erased_from, lives_behind, none_erased, records_behind}

-- a record in the erased state is its header only
bare_erased : (h : Header) → h.state ≡ 0xFF → is_bare h ≡ true
bare_erased h e = ap (λ state. (state == 0xFF) || (h.name_size == erased_number) || (h.data_size == erased_number) || (h.attributes == erased_number)) e

-- a record that isn't whole
not_whole : (whole : Bool) → not whole ≡ true → whole ≡ false
not_whole true e = cc
not_whole false e = refl

module _ (old : List ℕ) (first : ℕ) (bytes : List ℕ) where
  abbrev tail : ℕ
  tail = tail_from Authenticated first (records Authenticated old first)

  module _ (clean : is_clean old tail ≡ true) (outside : IsOutsideKept tail (tail + 60) old bytes) where
    alike : IsAlike 0 tail old bytes
    alike = alike_front tail old bytes outside.len outside.before

    erased : IsErasedFrom (tail + 60) bytes
    erased =
        alike_erased (tail + 60) (tail + 60) old bytes (alike_back (tail + 60) (length old) old bytes outside.len outside.behind) (omega arith)
        (λ k low high. erased_from old tail clean k (omega arith) high)

    -- the state byte of what is read at the tail
    state_read : (r : Record) → record_at Authenticated bytes tail ≡ Some r → r.header.state ≡ get_or bytes (tail + 2) 0
    state_read r e =
        ap (λ (h : Header). h.state) (read_of bytes tail r e).header ∙ state_of (drop tail bytes) ∙ get_or-drop tail bytes 2 0

    -- nothing stands behind it
    has_read : (r : Record) → record_at Authenticated bytes tail ≡ Some r → HasRecords Authenticated bytes tail (r ∷ [])
    has_read r e =
        let onward = next_onward bytes tail r e in
        (e, none_erased bytes (tail + 60) (next_offset Authenticated r) erased (omega arith))

    -- the records, by what is read at the tail
    pub torn_records : get_or bytes (tail + 2) 0 ≡ 0xFF
        → (records Authenticated bytes first ≡ records Authenticated old first)
        ⊎ ((h : Header) × (records Authenticated bytes first ≡ records Authenticated old first ++ (record { at = tail; header = h; whole = false } ∷ [])))
    torn_records state = by (record_at Authenticated bytes tail) refl
      where
        by : (found : Option Record) → record_at Authenticated bytes tail ≡ found
            → (records Authenticated bytes first ≡ records Authenticated old first)
            ⊎ ((h : Header) × (records Authenticated bytes first ≡ records Authenticated old first ++ (record { at = tail; header = h; whole = false } ∷ [])))
        by None e = inl (records_behind old bytes first [] alike e ∙ append-nil (records Authenticated old first))
        by (Some r) e =
            let w = read_of bytes tail r e in
            let whole : r.whole ≡ false = not_whole r.whole (sym w.bare ∙ bare_erased r.header (state_read r e ∙ state)) in
            let same : r ≡ record { at = tail; header = r.header; whole = false } = λ i. record { at = w.place i; header = r.header; whole = whole i } in
            inr (r.header, (records_behind old bytes first (r ∷ []) alike (has_read r e) ∙ ap (λ (q : Record). records Authenticated old first ++ (q ∷ [])) same))

    -- the live records are those of before
    pub torn_lives : (non_volatile : Bool) → record_state (get_or bytes (tail + 2) 0) ≡ None
        → lives Authenticated non_volatile bytes (records Authenticated bytes first) ≡ lives Authenticated non_volatile old (records Authenticated old first)
    torn_lives nv state = by (record_at Authenticated bytes tail) refl
      where
        by : (found : Option Record) → record_at Authenticated bytes tail ≡ found
            → lives Authenticated nv bytes (records Authenticated bytes first) ≡ lives Authenticated nv old (records Authenticated old first)
        by None e = lives_behind old bytes first nv [] alike e ∙ append-nil (lives Authenticated nv old (records Authenticated old first))
        by (Some r) e =
            lives_behind old bytes first nv (r ∷ []) alike (has_read r e)
            ∙ ap (λ found. lives Authenticated nv old (records Authenticated old first) ++ with_live found []) (live_none nv bytes r (ap record_state (state_read r e) ∙ state))
            ∙ append-nil (lives Authenticated nv old (records Authenticated old first))

pub TornHeadersAreHeadersAtMost-all : TornHeadersAreHeadersAtMost
unfolding region_records tail_offset is_tail_clean
TornHeadersAreHeadersAtMost-all =
    each_region (λ region. (bytes : List ℕ) → is_tail_clean region ≡ true
    → IsOutsideKept (tail_offset region) (tail_offset region + 60) region.bytes bytes
    → get_or bytes (tail_offset region + 2) 0 ≡ 0xFF
    → (region_records (with_bytes region bytes) ≡ region_records region)
    ⊎ ((h : Header) × (region_records (with_bytes region bytes) ≡ region_records region ++ (record { at = tail_offset region; header = h; whole = false } ∷ []))))
    (λ old first nv bytes clean outside state. torn_records old first bytes clean outside state)

pub TornHeadersChangeNoVariable-all : TornHeadersChangeNoVariable
unfolding region_records region_lives tail_offset is_tail_clean
TornHeadersChangeNoVariable-all =
    each_region (λ region. (bytes : List ℕ) → is_tail_clean region ≡ true
    → IsOutsideKept (tail_offset region) (tail_offset region + 60) region.bytes bytes
    → record_state (get_or bytes (tail_offset region + 2) 0) ≡ None
    → region_lives (with_bytes region bytes) ≡ region_lives region)
    (λ old first nv bytes clean outside state. torn_lives old first bytes clean outside nv state)

pub TornBodiesChangeNoVariable-all : TornBodiesChangeNoVariable
TornBodiesChangeNoVariable-all =
    each_region (λ region. (new : NewRecord) (state : ℕ) (bytes : List ℕ) → FitsBehind region new → state < 0xFF → record_state state ≡ None
    → IsBegun region state new bytes → region_lives (with_bytes region bytes) ≡ region_lives region)
    (λ old first nv new state bytes fits small none begun.
    begun_lives old first nv new state bytes fits small begun
    ∙ ap (λ found. region_lives (record { form = Authenticated; bytes = old; first = first; non_volatile = nv }) ++ with_live found [])
    (live_none nv bytes (r old first nv new state bytes) none)
    ∙ append-nil (region_lives (record { form = Authenticated; bytes = old; first = first; non_volatile = nv })))
