-- Another state byte of a whole record changes that record's state alone.
use Rattle.std.proofs.Common.{◌≡◌, ◌≢◌, ℕ, ◌+◌, ◌≤◌, ◌==◌, ◌||◌, not, Bool, true, false, List, ◌∷◌, ◌++◌, length, drop, sym, ap, subst, ◌∙◌, arith, set, length-set, length-drop, Some}
use Rattle.std.proofs.lemmas.Bool.{ne_eqb}
use Rattle.std.proofs.lemmas.List.{drop-set-add, drop-set-lt}
use Rattle.std.specs.List.{list_all}
use Rattle.std.specs.Option.{option_map}
use Rattle.var_header.proofs.Fronts.{header_restated, start_id_restated}
use Rattle.var_header.specs.declared.header.Header.{Header}
use Rattle.var_header.specs.Header.{has_start_id, header_of}
use Rattle.var_types.proofs.Records.{has_all, one}
use Rattle.var_types.specs.declared.record.Record.{Record}
use Rattle.var_types.specs.Live.{Live, live_of, lives, name_in, with_live}
use Rattle.var_types.specs.Record.{Authenticated, HasRecords, erased_number, is_bare, is_clean, next_offset, record_at, records, tail_from}
use Rattle.var_types.specs.RecordState.{record_state}
use Rattle.var_types.specs.Region.{Region, is_tail_clean, region_lives, region_records, tail_offset}
use Rattle.var_region.proofs.Alike.{IsAlike, alike_set, same_lives, same_part, same_records, same_rest}
use Rattle.var_region.proofs.Read.{has_behind, next_onward, place_of, read_all, read_front, read_of, tail_onward, whole_read}
use Rattle.var_region.proofs.Stored.{each_region, found_in, live_from, live_with, stored_of}
use Rattle.var_region.proofs.Tails.{lives-append, tail-append}
use Rattle.var_region.specs.WritingLaws.{IsRestated, MarksChangeOneRecord, MarksRestateOneLiveRecord, live_restated}
use Rattle.var_region.specs.Written.{in_state, state_set, with_bytes}

-- a header that isn't alone isn't so in another state
pub full_restated : (h : Header) (state : ℕ) → is_bare h ≡ false → state ≢ 0xFF → is_bare (record h { state = state }) ≡ false
full_restated h state full apart =
    by (h.state == 0xFF) (h.name_size == erased_number) (h.data_size == erased_number) (h.attributes == erased_number) (state == 0xFF) full (ne_eqb state 0xFF apart)
  where
    by : (a b c d e : Bool) → (a || b || c || d) ≡ false → e ≡ false → (e || b || c || d) ≡ false
    by true b c d e f g = cc
    by false true c d e f g = cc
    by false false true d e f g = cc
    by false false false true e f g = cc
    by false false false false e f g = ap (λ t. t || false || false || false) g

module _ (old : List ℕ) (first : ℕ) (before after : List Record) (r : Record) (state : ℕ) (split : records Authenticated old first ≡ before ++ r ∷ after)
    (whole : r.whole ≡ true) (apart : state ≢ 0xFF) where
  abbrev new : List ℕ
  new = state_set r.at state old

  abbrev restated : Record
  restated = in_state state r

  has_split : HasRecords Authenticated old first (before ++ r ∷ after)
  has_split = subst (HasRecords Authenticated old first) split (has_all Authenticated old first)

  here : record_at Authenticated old (tail_from Authenticated first before) ≡ Some r
  here = (has_behind old first before (r ∷ after) has_split).0

  -- where the record stands
  place : r.at ≡ tail_from Authenticated first before
  place = place_of old (tail_from Authenticated first before) r here

  here_read : record_at Authenticated old r.at ≡ Some r
  here_read = ap (record_at Authenticated old) place ∙ here

  later : HasRecords Authenticated old (next_offset Authenticated r) after
  later = (has_behind old first before (r ∷ after) has_split).1

  -- all before the record is as it was
  front_alike : IsAlike 0 r.at old new
  front_alike = alike_set 0 r.at (r.at + 2) state old (λ k low high same. omega arith)

  -- all behind its state byte is as it was
  back_alike : (to : ℕ) → IsAlike (r.at + 3) to old new
  back_alike to = alike_set (r.at + 3) to (r.at + 2) state old (λ k low high same. omega arith)

  -- the bytes from the record on
  drop_new : drop r.at new ≡ set (drop r.at old) 2 state
  drop_new = drop-set-add r.at old 2 state

  -- the record is read in its new state
  restated_read : record_at Authenticated new r.at ≡ Some restated
  restated_read =
      let w = read_of old r.at r here_read in
      let room = w.room in
      let fits = w.fits whole in
      let long : 3 ≤ length (drop r.at old) = omega (arith, length-drop r.at old) in
      let header : header_of (drop r.at new) ≡ record r.header { state = state } =
      ap header_of drop_new ∙ header_restated (drop r.at old) state long ∙ ap (λ (h : Header). record h { state = state }) (sym w.header) in
      let full : is_bare r.header ≡ false = w.bare ∙ ap not whole in
      whole_read new r.at (record r.header { state = state })
      (omega (arith, length-set old (r.at + 2) state))
      (ap has_start_id drop_new ∙ start_id_restated (drop r.at old) state ∙ w.start)
      header (full_restated r.header state full apart)
      ∙ ap (λ b. Some (record { at = r.at; header = record r.header { state = state }; whole = b })) (sym whole)

  -- those behind it are read as they were
  later_read : HasRecords Authenticated new (next_offset Authenticated r) after
  later_read =
      let onward = next_onward old r.at r here_read in
      same_rest (r.at + 3) old new back_alike (next_offset Authenticated r) after (omega arith) later

  pub has_restated : HasRecords Authenticated new first (before ++ restated ∷ after)
  has_restated =
      let front = read_front old first before (r ∷ after) has_split in
      same_records 0 r.at old new front_alike first before (restated ∷ after) (omega arith) (omega (arith, place)) front
      (ap (record_at Authenticated new) (sym place) ∙ restated_read, later_read)

  -- the records with the one in its new state
  pub records_restated : records Authenticated new first ≡ before ++ restated ∷ after
  records_restated = one Authenticated new first (records Authenticated new first) (before ++ restated ∷ after) (has_all Authenticated new first) has_restated

  -- the tail is where it was
  pub tail_restated : tail_from Authenticated first (records Authenticated new first) ≡ tail_from Authenticated first (records Authenticated old first)
  tail_restated =
      ap (tail_from Authenticated first) records_restated
      ∙ tail-append first before (restated ∷ after)
      ∙ sym (tail-append first before (r ∷ after))
      ∙ ap (tail_from Authenticated first) (sym split)

  -- the tail is behind the record
  tail_behind : r.at + 3 ≤ tail_from Authenticated first (records Authenticated old first)
  tail_behind =
      let onward = next_onward old r.at r here_read in
      let more = tail_onward old (next_offset Authenticated r) after (read_all old (next_offset Authenticated r) after later) in
      let same : tail_from Authenticated (next_offset Authenticated r) after ≡ tail_from Authenticated first (records Authenticated old first) =
      sym (tail-append first before (r ∷ after)) ∙ ap (tail_from Authenticated first) (sym split) in
      omega arith

  -- the tail is as clean as it was
  pub clean_restated : is_clean new (tail_from Authenticated first (records Authenticated new first)) ≡ is_clean old (tail_from Authenticated first (records Authenticated old first))
  clean_restated =
      ap (is_clean new) tail_restated
      ∙ ap (list_all (λ b. b == 0xFF)) (drop-set-lt (tail_from Authenticated first (records Authenticated old first)) old (r.at + 2) state (omega (arith, tail_behind)))

  -- the live record that it is then
  live_new : (non_volatile : Bool) (live : Live) → live_of Authenticated non_volatile old r ≡ Some live
      → live_of Authenticated non_volatile new restated ≡ option_map (λ said. record live { state = said }) (record_state state)
  live_new nv live is =
      let stored = stored_of nv old r live is in
      let alike = back_alike (r.at + 60 + r.header.name_size + r.header.data_size) in
      let name = same_part (r.at + 3) (r.at + 60 + r.header.name_size + r.header.data_size) old new alike (r.at + 60) r.header.name_size (omega arith) (omega arith) in
      let bytes = same_part (r.at + 3) (r.at + 60 + r.header.name_size + r.header.data_size) old new alike (r.at + 60 + r.header.name_size) r.header.data_size (omega arith) (omega arith) in
      live_from nv new restated live.key.name whole stored.stored (ap (λ found. name_in found r.header.name_size) name ∙ stored.named)
      ∙ ap (λ found. option_map (live_with restated live.key.name found) (record_state state)) bytes
      ∙ ap (λ (l : Live). option_map (λ said. record l { state = said }) (record_state state)) (sym stored.same)

  -- the live records with the one restated
  pub lives_restated : (non_volatile : Bool) (live : Live) → live_of Authenticated non_volatile old r ≡ Some live
      → lives Authenticated non_volatile new (records Authenticated new first)
      ≡ lives Authenticated non_volatile old before ++ live_restated state live (lives Authenticated non_volatile old after)
  lives_restated nv live is =
      let onward = next_onward old r.at r here_read in
      let front = read_front old first before (r ∷ after) has_split in
      let behind = tail_from Authenticated (next_offset Authenticated r) after in
      ap (lives Authenticated nv new) records_restated
      ∙ lives-append nv new before (restated ∷ after)
      ∙ ap (λ ls. ls ++ lives Authenticated nv new (restated ∷ after)) (same_lives 0 r.at old new front_alike nv first before (omega arith) (omega (arith, place)) front)
      ∙ ap (λ found. lives Authenticated nv old before ++ with_live found (lives Authenticated nv new after)) (live_new nv live is)
      ∙ ap (λ ls. lives Authenticated nv old before ++ live_restated state live ls)
      (same_lives (r.at + 3) behind old new (back_alike behind) nv (next_offset Authenticated r) after (omega arith) (omega arith) (read_all old (next_offset Authenticated r) after later))

pub MarksChangeOneRecord-all : MarksChangeOneRecord
unfolding region_records
MarksChangeOneRecord-all =
    each_region (λ region. (before after : List Record) (r : Record) (state : ℕ) → region_records region ≡ before ++ r ∷ after → r.whole ≡ true
    → state ≢ 0xFF → region_records (with_bytes region (state_set r.at state region.bytes)) ≡ before ++ in_state state r ∷ after)
    (λ old first nv before after r state split whole apart. records_restated old first before after r state split whole apart)

pub MarksRestateOneLiveRecord-all : MarksRestateOneLiveRecord
unfolding region_lives region_records tail_offset is_tail_clean
MarksRestateOneLiveRecord-all =
    each_region (λ region. (before after : List Live) (live : Live) (state : ℕ) → region_lives region ≡ before ++ live ∷ after → state ≢ 0xFF
    → IsRestated region before after live state (state_set live.at state region.bytes))
    (λ old first nv before after live state split apart. by old first nv before after live state split apart)
  where
    by : (old : List ℕ) (first : ℕ) (nv : Bool) (fs bs : List Live) (live : Live) (state : ℕ)
        → lives Authenticated nv old (records Authenticated old first) ≡ fs ++ live ∷ bs → state ≢ 0xFF
        → IsRestated (record { form = Authenticated; bytes = old; first = first; non_volatile = nv }) fs bs live state (state_set live.at state old)
    by old first nv fs bs live state split apart =
        let w = found_in nv old (records Authenticated old first) fs bs live split in
        let stored = stored_of nv old w.r live w.is in
        let at : live.at ≡ w.r.at = ap (λ (l : Live). l.at) stored.same in
        let region : Region = record { form = Authenticated; bytes = old; first = first; non_volatile = nv } in
        subst (λ n. IsRestated region fs bs live state (state_set n state old)) (sym at)
        (record {
          lives = lives_restated old first w.before w.after w.r state w.split stored.whole apart nv live w.is
              ∙ (λ i. w.front i ++ live_restated state live (w.back i));
          offset = tail_restated old first w.before w.after w.r state w.split stored.whole apart;
          clean = clean_restated old first w.before w.after w.r state w.split stored.whole apart;
        })
