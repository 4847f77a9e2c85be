-- What a live record tells of its record, and that each stands whole.
use Rattle.std.proofs.Common.{◌≡◌, ℕ, ◌+◌, ◌≤◌, ◌==◌, ◌&&◌, ◌||◌, not, Bool, true, false, cond, List, [], ◌∷◌, ◌++◌, drop, get_or, refl, sym, ap, subst, ◌∙◌, arith, eqb-true, Option, Some, None}
use Rattle.std.proofs.lemmas.List.{get_or-drop}
use Rattle.std.specs.List.{AllByRecursion}
use Rattle.std.specs.Option.{option_map}
use Rattle.var_header.proofs.Fronts.{state_of}
use Rattle.var_types.proofs.Records.{has_all}
use Rattle.var_types.specs.Attributes.{has, non_volatile_bit}
use Rattle.var_types.specs.declared.record.Record.{Record}
use Rattle.var_types.specs.declared.record_state.RecordState.{RecordState}
use Rattle.var_types.specs.declared.record_state.RecordState.TheVariants.{Added, InDeletedTransition}
use Rattle.var_types.specs.Live.{Live, data_bytes, live_in_state, live_named, live_of, lives, name_bytes, name_in, with_live}
use Rattle.var_types.specs.Record.{Authenticated, Form, next_offset, record_at, records}
use Rattle.var_types.specs.RecordState.{record_state}
use Rattle.var_types.specs.Region.{Region, region_lives, region_records}
use Rattle.var_region.proofs.Marked.{whole_stands}
use Rattle.var_region.proofs.Read.{AreRead, next_onward, read_all, read_of}
use Rattle.var_region.specs.WritingLaws.{LiveRecordsStandWhole, StandsWhole, state_byte}

-- the live record of a record in a state, with a name and data
abbrev pub live_with : Record → List ℕ → List ℕ → RecordState → Live
live_with r name bytes state = record {
  at = r.at;
  state = state;
  key = record { guid = record { bytes = r.header.vendor_guid }; name = name };
  variable = record { attributes = r.header.attributes; bytes = bytes; stamp = record { bytes = r.header.time_stamp } };
}

-- a record of some bytes is a live one
pub record IsStored (non_volatile : Bool) (bytes : List ℕ) (r : Record) (live : Live) : Type 0 where
  pub whole : r.whole ≡ true
  pub stored : (not non_volatile || has r.header.attributes non_volatile_bit) ≡ true
  pub said : record_state r.header.state ≡ Some live.state
  pub named : name_in (name_bytes Authenticated bytes r) r.header.name_size ≡ Some live.key.name
  pub same : live ≡ live_with r live.key.name (data_bytes Authenticated bytes r) live.state

module _ (non_volatile : Bool) (bytes : List ℕ) (r : Record) where
  -- a whole record of the store with a name is live by what its state says
  pub live_from : (name : List ℕ) → r.whole ≡ true → (not non_volatile || has r.header.attributes non_volatile_bit) ≡ true
      → name_in (name_bytes Authenticated bytes r) r.header.name_size ≡ Some name
      → live_of Authenticated non_volatile bytes r
      ≡ option_map (live_with r name (data_bytes Authenticated bytes r)) (record_state r.header.state)
  unfolding live_of
  live_from name whole stored named =
      ap (λ b. cond (b && (not non_volatile || has r.header.attributes non_volatile_bit)) (live_in_state Authenticated bytes r (record_state r.header.state)) None) whole
      ∙ ap (λ b. cond b (live_in_state Authenticated bytes r (record_state r.header.state)) None) stored
      ∙ by (record_state r.header.state)
    where
      by : (state : Option RecordState) → live_in_state Authenticated bytes r state ≡ option_map (live_with r name (data_bytes Authenticated bytes r)) state
      by None = refl
      by (Some state) = ap (live_named Authenticated bytes r state) named

  -- a record whose state says nothing isn't live
  pub live_none : record_state r.header.state ≡ None → live_of Authenticated non_volatile bytes r ≡ None
  unfolding live_of
  live_none none =
      ap (λ state. cond (r.whole && (not non_volatile || has r.header.attributes non_volatile_bit)) (live_in_state Authenticated bytes r state) None) none
      ∙ either (r.whole && (not non_volatile || has r.header.attributes non_volatile_bit)) None
    where
      either : (b : Bool) (found : Option Live) → cond b found found ≡ found
      either true found = refl
      either false found = refl

  -- what a live record tells
  pub stored_of : (live : Live) → live_of Authenticated non_volatile bytes r ≡ Some live → IsStored non_volatile bytes r live
  unfolding live_of
  stored_of live e =
      by r.whole refl (not non_volatile || has r.header.attributes non_volatile_bit) refl (record_state r.header.state) refl
      (name_in (name_bytes Authenticated bytes r) r.header.name_size) refl e
    where
      by : (whole : Bool) → r.whole ≡ whole → (stored : Bool) → (not non_volatile || has r.header.attributes non_volatile_bit) ≡ stored
          → (state : Option RecordState) → record_state r.header.state ≡ state → (name : Option (List ℕ))
          → name_in (name_bytes Authenticated bytes r) r.header.name_size ≡ name
          → cond (whole && stored) (live_in_state Authenticated bytes r state) None ≡ Some live → IsStored non_volatile bytes r live
      by false w stored s state t name n e = cc
      by true w false s state t name n e = cc
      by true w true s None t name n e = cc
      by true w true s (Some state) t None n e = let f = sym (ap (live_named Authenticated bytes r state) n) ∙ e in cc
      by true w true s (Some state) t (Some name) n e =
          let is : live_with r name (data_bytes Authenticated bytes r) state ≡ live =
          let f = sym (ap (live_named Authenticated bytes r state) n) ∙ e in cc in
          subst (IsStored non_volatile bytes r) is (record { whole = w; stored = s; said = t; named = n; same = refl })

-- the byte of a state
pub byte_of : (byte : ℕ) (state : RecordState) → record_state byte ≡ Some state → byte ≡ state_byte state
byte_of byte state e = by (byte == 0x3F) refl (byte == 0x3E) refl state e
  where
    by : (a : Bool) → (byte == 0x3F) ≡ a → (b : Bool) → (byte == 0x3E) ≡ b → (state : RecordState)
        → cond a (Some Added) (cond b (Some InDeletedTransition) None) ≡ Some state → byte ≡ state_byte state
    by true p b q Added e = eqb-true byte 0x3F p
    by true p b q InDeletedTransition e = cc
    by false p true q Added e = cc
    by false p true q InDeletedTransition e = eqb-true byte 0x3E q
    by false p false q state e = cc

-- a live record among the live ones of some records is one of these, with those before and behind it
pub record IsFoundIn (non_volatile : Bool) (bytes : List ℕ) (rs : List Record) (fs bs : List Live) (live : Live) : Type 0 where
  pub before : List Record
  pub r : Record
  pub after : List Record
  pub split : rs ≡ before ++ r ∷ after
  pub front : lives Authenticated non_volatile bytes before ≡ fs
  pub is : live_of Authenticated non_volatile bytes r ≡ Some live
  pub back : lives Authenticated non_volatile bytes after ≡ bs

-- the record of a live record
pub found_in : (non_volatile : Bool) (bytes : List ℕ) (rs : List Record) (fs bs : List Live) (live : Live)
    → lives Authenticated non_volatile bytes rs ≡ fs ++ live ∷ bs → IsFoundIn non_volatile bytes rs fs bs live
found_in nv bytes [] [] bs live e = cc
found_in nv bytes [] (f ∷ fs) bs live e = cc
found_in nv bytes (r ∷ rs) fs bs live e = by (live_of Authenticated nv bytes r) refl fs e (λ fs e. found_in nv bytes rs fs bs live e)
  where
    by : (found : Option Live) → live_of Authenticated nv bytes r ≡ found → (fs : List Live)
        → with_live found (lives Authenticated nv bytes rs) ≡ fs ++ live ∷ bs
        → ((fs : List Live) → lives Authenticated nv bytes rs ≡ fs ++ live ∷ bs → IsFoundIn nv bytes rs fs bs live)
        → IsFoundIn nv bytes (r ∷ rs) fs bs live
    by None is fs e rest =
        let w = rest fs e in
        record {
          before = r ∷ w.before;
          r = w.r;
          after = w.after;
          split = ap (λ rs. r ∷ rs) w.split;
          front = ap (λ found. with_live found (lives Authenticated nv bytes w.before)) is ∙ w.front;
          is = w.is;
          back = w.back;
        }
    by (Some l) is [] e rest =
        let mine : l ≡ live = cc in
        let back : lives Authenticated nv bytes rs ≡ bs = cc in
        record { before = []; r = r; after = rs; split = refl; front = refl; is = is ∙ ap Some mine; back = back }
    by (Some l) is (f ∷ fs) e rest =
        let mine : l ≡ f = cc in
        let others : lives Authenticated nv bytes rs ≡ fs ++ live ∷ bs = cc in
        let w = rest fs others in
        let first = ap (λ (found : Option Live). with_live found (lives Authenticated nv bytes w.before)) is in
        record {
          before = r ∷ w.before;
          r = w.r;
          after = w.after;
          split = ap (λ rs. r ∷ rs) w.split;
          front = first ∙ (λ i. mine i ∷ w.front i);
          is = w.is;
          back = w.back;
        }

module _ (region : Region) where
  -- each of the live records of some records stands whole
  stand_whole : (at : ℕ) (rs : List Record) → region.first ≤ at → AreRead region.bytes at rs
      → AllByRecursion (StandsWhole region) (lives Authenticated region.non_volatile region.bytes rs)
  stand_whole at [] low read = tt
  stand_whole at (r ∷ rs) low read =
      let next = next_onward region.bytes at r read.0 in
      by (live_of Authenticated region.non_volatile region.bytes r) refl (stand_whole (next_offset Authenticated r) rs (omega arith) read.1)
    where
      here : (live : Live) → live_of Authenticated region.non_volatile region.bytes r ≡ Some live → StandsWhole region live
      here live is =
          let stored = stored_of region.non_volatile region.bytes r live is in
          let w = read_of region.bytes at r read.0 in
          let place : live.at ≡ at = ap (λ (l : Live). l.at) stored.same ∙ w.place in
          let header = w.header in
          let room = w.room in
          record {
            low = omega arith;
            whole = whole_stands region.bytes live.at r (ap (record_at Authenticated region.bytes) place ∙ read.0) stored.whole;
            room = omega arith;
            byte = ap (λ n. get_or region.bytes (n + 2) 0) place
                ∙ sym (get_or-drop at region.bytes 2 0)
                ∙ sym (state_of (drop at region.bytes))
                ∙ ap (λ h. h.state) (sym header)
                ∙ byte_of r.header.state live.state stored.said;
          }

      by : (found : Option Live) → live_of Authenticated region.non_volatile region.bytes r ≡ found
          → AllByRecursion (StandsWhole region) (lives Authenticated region.non_volatile region.bytes rs)
          → AllByRecursion (StandsWhole region) (with_live found (lives Authenticated region.non_volatile region.bytes rs))
      by None is rest = rest
      by (Some live) is rest = (here live is, rest)

-- what holds of each region of authenticated records holds of each
pub each_region : (P : Region → Type 0)
    → ((bytes : List ℕ) (first : ℕ) (non_volatile : Bool) → P (record { form = Authenticated; bytes = bytes; first = first; non_volatile = non_volatile }))
    → (region : Region) → P region
each_region P h region = by region.form region.bytes region.first region.non_volatile
  where
    by : (form : Form) (bytes : List ℕ) (first : ℕ) (non_volatile : Bool)
        → P (record { form = form; bytes = bytes; first = first; non_volatile = non_volatile })
    by Authenticated bytes first nv = h bytes first nv

pub LiveRecordsStandWhole-all : LiveRecordsStandWhole
unfolding region_lives region_records
LiveRecordsStandWhole-all =
    each_region (λ region. AllByRecursion (StandsWhole region) (region_lives region))
    (λ bytes first nv.
    stand_whole (record { form = Authenticated; bytes = bytes; first = first; non_volatile = nv }) first (records Authenticated bytes first) (omega arith)
    (read_all bytes first (records Authenticated bytes first) (has_all Authenticated bytes first)))
