-- A put and a removal in the volatile store's bytes, by the places of the key's records.
use Rattle.std.proofs.Common.{◌≡◌, ℕ, ◌+◌, ◌≤◌, Bool, true, false, cond, ◌&&◌, ◌||◌, List, [], ◌∷◌, ◌++◌, length, find, is_some, IfSome, IsSome, Option, Some, None, refl, sym, ap, subst, ◌∙◌, arith, count_by, bit_and}
use Rattle.std.proofs.lemmas.List.Folds.{find-append}
use Rattle.std.specs.BTreeMap.{is_at}
use Rattle.std.specs.List.{list_any}
use Rattle.std.specs.Map.{lookup}
use Rattle.std.specs.Option.{option_map, option_or}
use Rattle.mm_writer.specs.declared.edit.Edit.TheVariants.{Put}
use Rattle.mm_writer.specs.declared.key_places.KeyPlaces.{KeyPlaces}
use Rattle.mm_writer.specs.Edit.{IsEdited, edit_spans}
use Rattle.mm_writer.specs.KeyPlaces.{cleared, old_place, place_in, places_in, twin_place}
use Rattle.nv_store.proofs.Appended.{appended_is}
use Rattle.nv_store.proofs.Counts.{count-append, none_counted}
use Rattle.nv_store.proofs.Firsts.{first_found}
use Rattle.nv_store.proofs.Rewritten.{of_store}
use Rattle.nv_store.proofs.Sequences.{few_again, put_done, put_written, removal_last, removed, removed_written, still_fits}
use Rattle.nv_store.proofs.Singles.{stands_state}
use Rattle.nv_store.proofs.Standing.{lives_gone, lives_turned, place_is}
use Rattle.nv_store.proofs.Turned.{deleted_at, dropped_at, dropped_none, found_at, mine_of, none_in, one_there, outdated_at, outdated_nowhere, some_in}
use Rattle.nv_store.specs.Changes.{IsPut, IsRemoved, lives_in}
use Rattle.nv_store.specs.Places.{first_in, new_span, remove_spans, stands_in}
use Rattle.nv_store.specs.Steps.{IsAdded, IsLastDeleted, IsOutdated, IsPlace, IsTwinDropped, twin_of}
use Rattle.nv_store.specs.Tidy.{IsTidy}
use Rattle.var_region.proofs.Appends.{AppendsAddOneLiveRecord-all, AppendsAddOneRecord-all}
use Rattle.var_region.specs.declared.new_record.NewRecord.{NewRecord}
use Rattle.var_region.specs.NewRecord.{new_bytes, new_key, new_live, new_size, new_variable}
use Rattle.var_region.specs.WritingLaws.{state_byte}
use Rattle.var_region.specs.Written.{FitsBehind, HasWholeRecord, state_set}
use Rattle.var_types.specs.Attributes.{store_of}
use Rattle.var_types.specs.Chosen.{is_added, is_in_transition, is_of}
use Rattle.var_types.specs.declared.key.Key.{Key}
use Rattle.var_types.specs.declared.record_state.RecordState.{RecordState}
use Rattle.var_types.specs.declared.record_state.RecordState.TheVariants.{Added, InDeletedTransition}
use Rattle.var_types.specs.declared.store.Store.TheVariants.{Volatile}
use Rattle.var_types.specs.Key.{key_cmp}
use Rattle.var_types.specs.Layout.{volatile_size}
use Rattle.var_types.specs.Live.{Live}
use Rattle.var_types.specs.Placed.{placed}
use Rattle.var_types.specs.RecordState.{is_added_state}
use Rattle.var_types.specs.Region.{Region, tail_offset}
use Rattle.var_types.specs.Room.{align4}
use Rattle.var_types.specs.Spans.{IsWritten}
use Rattle.var_types.specs.Stores.{map_in, store_region}

-- the offset of a live record
abbrev offset : Live → ℕ
offset live = live.at

-- the state of a record at a place is known, so that of the record after some of its bits were cleared
pub cleared_at : (bytes : List ℕ) (byte mask at : ℕ) → IsPlace Volatile bytes byte at → cleared (Some at) mask bytes ≡ state_set at (bit_and byte mask) bytes
cleared_at bytes byte mask at is = ap (λ (b : ℕ). state_set at (bit_and b mask) bytes) is.byte

-- a whole record stands at such a place
pub whole_at : (bytes : List ℕ) (byte : ℕ) (place : Option ℕ) → IfSome place (IsPlace Volatile bytes byte) → IfSome place (HasWholeRecord bytes)
whole_at bytes byte None is = tt
whole_at bytes byte (Some at) is = is.whole

-- the places of a key are within the bytes
pub record AreWithin (places : KeyPlaces) : Type 0 where
  pub added : IfSome places.added (λ at. at + 60 ≤ volatile_size)
  pub in_transition : IfSome places.in_transition (λ at. at + 60 ≤ volatile_size)

pub places_within : (key : Key) (bytes : List ℕ) → length bytes ≡ volatile_size → (places : KeyPlaces) → places ≡ places_in key (lives_in Volatile bytes)
    → AreWithin places
places_within key bytes size places is = subst AreWithin (sym is) (record { added = each Added; in_transition = each InDeletedTransition })
  where
    each : (state : RecordState) → IfSome (place_in state key (lives_in Volatile bytes)) (λ at. at + 60 ≤ volatile_size)
    each state = by (place_in state key (lives_in Volatile bytes)) (place_is Volatile bytes state key)
      where
        by : (place : Option ℕ) → IfSome place (IsPlace Volatile bytes (state_byte state)) → IfSome place (λ at. at + 60 ≤ volatile_size)
        by None stands = tt
        by (Some at) stands = subst (λ n. at + 60 ≤ n) size stands.room

-- what passes no test is found by none
find_without : {X : Type 0} (p : X → Bool) (fs : List X) (x : X) (bs : List X) → p x ≡ false → find p (fs ++ x ∷ bs) ≡ find p (fs ++ bs)
find_without p [] x bs e = ap (λ b. cond b (Some x) (find p bs)) e
find_without p (f ∷ fs) x bs e = ap (λ found. cond (p f) (Some f) found) (find_without p fs x bs e)

-- what passes behind some that don't is found
find_here : {X : Type 0} (p : X → Bool) (fs : List X) (x : X) (bs : List X) → list_any p fs ≡ false → p x ≡ true → find p (fs ++ x ∷ bs) ≡ Some x
find_here p [] x bs none e = ap (λ b. cond b (Some x) (find p bs)) e
find_here p (f ∷ fs) x bs none e = by (p f) none (find_here p fs x bs)
  where
    by : (b : Bool) → (b || list_any p fs) ≡ false → (list_any p fs ≡ false → p x ≡ true → find p (fs ++ x ∷ bs) ≡ Some x)
        → cond b (Some f) (find p (fs ++ x ∷ bs)) ≡ Some x
    by true none rest = cc
    by false none rest = rest none e

module _ (key : Key) (a : List ℕ) (tidy : IsTidy (store_region Volatile a)) where
  abbrev ls : List Live
  ls = lives_in Volatile a

  abbrev pub places : KeyPlaces
  places = places_in key ls

  -- the twin's place is where the twin stands
  twin_is : twin_place places ≡ option_map offset (twin_of key ls)
  twin_is = by (first_in Added key ls)
    where
      by : (found : Option Live)
          → cond (is_some (option_map offset found)) (place_in InDeletedTransition key ls) None
          ≡ option_map offset (cond (is_some found) (first_in InDeletedTransition key ls) None)
      by None = refl
      by (Some live) = refl

  pub twin_stands : IfSome (twin_place places) (IsPlace Volatile a 0x3E)
  twin_stands = by (is_some places.added)
    where
      by : (b : Bool) → IfSome (cond b places.in_transition None) (IsPlace Volatile a 0x3E)
      by true = place_is Volatile a InDeletedTransition key
      by false = tt

  -- ---- the twin goes
  abbrev pub twinless : List ℕ
  twinless = cleared (twin_place places) 0xFD a

  pub dropped : IsTwinDropped Volatile key a twinless
  dropped = by (twin_place places) refl twin_stands
    where
      by : (place : Option ℕ) → twin_place places ≡ place → IfSome place (IsPlace Volatile a 0x3E) → IsTwinDropped Volatile key a (cleared place 0xFD a)
      by None e is = dropped_none Volatile key a (twin_place places) twin_is e
      by (Some at) e is =
          subst (IsTwinDropped Volatile key a) (sym (cleared_at a 0x3E 0xFD at is))
          (dropped_at Volatile key a (twin_place places) at twin_is e (tidy.single.in_transition key))

  -- the ADDED record stands where it stood
  kept_added : place_in Added key (lives_in Volatile twinless) ≡ places.added
  kept_added = by (twin_place places) refl twin_stands
    where
      first_of : (live : Live) → twin_of key ls ≡ Some live → first_in InDeletedTransition key ls ≡ Some live
      first_of live = each (first_in Added key ls)
        where
          each : (found : Option Live) → cond (is_some found) (first_in InDeletedTransition key ls) None ≡ Some live
              → first_in InDeletedTransition key ls ≡ Some live
          each None e = cc
          each (Some added) e = e

      by : (place : Option ℕ) → twin_place places ≡ place → IfSome place (IsPlace Volatile a 0x3E)
          → place_in Added key (lives_in Volatile (cleared place 0xFD a)) ≡ place_in Added key ls
      by None e is = refl
      by (Some at) e is =
          let w = found_at (twin_of key ls) (twin_place places) at twin_is e in
          let f = first_found (stands_in InDeletedTransition key) ls w.live (first_of w.live w.is) in
          let not_added : is_added key w.live ≡ false =
          ap (λ s. is_added_state s && is_of key w.live) (stands_state InDeletedTransition key w.live f.passes) in
          let gone : lives_in Volatile (state_set w.live.at 0x3C a) ≡ f.before ++ f.after =
          lives_gone Volatile a key f.before f.after w.live f.split (mine_of InDeletedTransition key w.live f.passes) 0x3C (λ e. omega arith) refl in
          ap (λ bytes. place_in Added key (lives_in Volatile bytes)) (cleared_at a 0x3E 0xFD at is ∙ ap (λ n. state_set n 0x3C a) (sym w.place))
          ∙ ap (place_in Added key) gone
          ∙ ap (option_map offset) (sym (find_without (is_added key) f.before w.live f.after not_added))
          ∙ ap (place_in Added key) (sym f.split)

  pub added_stands : IfSome places.added (IsPlace Volatile twinless 0x3F)
  added_stands = subst (λ place. IfSome place (IsPlace Volatile twinless 0x3F)) kept_added (place_is Volatile twinless Added key)

  -- ---- the old record goes into transition
  abbrev pub turned : List ℕ
  turned = cleared places.added 0xFE twinless

  few_added : count_by (is_added key) (lives_in Volatile twinless) ≤ 1
  few_added = let same = dropped.added in omega (arith, tidy.single.added key)

  few_twins : count_by (is_in_transition key) (lives_in Volatile twinless) ≤ 1
  few_twins = let fewer = dropped.fewer in omega (arith, tidy.single.in_transition key)

  no_twin : 1 ≤ count_by (is_added key) (lives_in Volatile twinless) → count_by (is_in_transition key) (lives_in Volatile twinless) ≡ 0
  no_twin some = let same = dropped.added in dropped.gone (omega arith)

  pub outdated : IsOutdated Volatile key twinless turned
  outdated = by places.added refl added_stands
    where
      by : (place : Option ℕ) → places.added ≡ place → IfSome place (IsPlace Volatile twinless 0x3F) → IsOutdated Volatile key twinless (cleared place 0xFE twinless)
      by None e is = outdated_nowhere Volatile key twinless places.added (sym kept_added) e few_twins
      by (Some at) e is =
          subst (IsOutdated Volatile key twinless) (sym (cleared_at twinless 0x3F 0xFE at is))
          (outdated_at Volatile key twinless places.added at (sym kept_added) e few_added no_twin)

  -- the old record is the first in transition then
  old_there : place_in InDeletedTransition key (lives_in Volatile turned) ≡ old_place places
  old_there = by places.added refl added_stands
    where
      -- without an ADDED record there was no twin
      alone : places.added ≡ None → twin_place places ≡ None
      alone e = ap (λ (place : Option ℕ). cond (is_some place) places.in_transition None) e

      by : (place : Option ℕ) → places.added ≡ place → IfSome place (IsPlace Volatile twinless 0x3F)
          → place_in InDeletedTransition key (lives_in Volatile (cleared place 0xFE twinless)) ≡ option_or place places.in_transition
      by None e is = ap (λ (place : Option ℕ). place_in InDeletedTransition key (lives_in Volatile (cleared place 0xFD a))) (alone e)
      by (Some at) e is =
          let w = found_at (first_in Added key (lives_in Volatile twinless)) places.added at (sym kept_added) e in
          let f = first_found (stands_in Added key) (lives_in Volatile twinless) w.live w.is in
          let mine = mine_of Added key w.live f.passes in
          let now : Live = record w.live { state = InDeletedTransition } in
          let in_transition : lives_in Volatile (state_set w.live.at 0x3E twinless) ≡ f.before ++ now ∷ f.after =
          lives_turned Volatile twinless key f.before f.after w.live f.split mine 0x3E (λ e. omega arith) InDeletedTransition refl in
          let twins = no_twin (some_in Volatile key twinless Added w.live w.is) in
          let counted = ap (count_by (is_in_transition key)) (sym f.split) ∙ twins in
          let none : list_any (is_in_transition key) f.before ≡ false =
          none_counted (is_in_transition key) f.before (omega (arith, counted, count-append (is_in_transition key) f.before (w.live ∷ f.after))) in
          ap (λ bytes. place_in InDeletedTransition key (lives_in Volatile bytes)) (cleared_at twinless 0x3F 0xFE at is ∙ ap (λ n. state_set n 0x3E twinless) (sym w.place))
          ∙ ap (place_in InDeletedTransition key) in_transition
          ∙ ap (option_map offset) (find_here (is_in_transition key) f.before now f.after none mine)
          ∙ ap Some w.place

-- ---- a put
module _ (new : NewRecord) (a : List ℕ) (tidy : IsTidy (store_region Volatile a)) (fits : FitsBehind (store_region Volatile a) new)
    (kept_in : store_of new.attributes ≡ Volatile) where
  abbrev pub own : Key
  own = new_key new

  abbrev region : Region
  region = store_region Volatile (turned own a tidy)

  pub tail_kept : tail_offset region ≡ tail_offset (store_region Volatile a)
  tail_kept = (outdated own a tidy).marked.tail ∙ (dropped own a tidy).marked.tail

  fits_still : FitsBehind region new
  fits_still = still_fits Volatile new a (twinless own a tidy) (turned own a tidy) (turned own a tidy) tidy (dropped own a tidy) (outdated own a tidy) fits

  -- the new record is added
  abbrev pub grown : List ℕ
  grown = placed (tail_offset region) (new_bytes 0x3F new) (turned own a tidy)

  added : IsAdded Volatile own (new_variable new) (new_span region new) (turned own a tidy) grown
  added = appended_is Volatile (turned own a tidy) new fits_still kept_in (outdated own a tidy).added

  -- the old record is the first in transition still
  old_is : place_in InDeletedTransition own (lives_in Volatile grown) ≡ old_place (places own a tidy)
  old_is =
      ap (place_in InDeletedTransition own) lives
      ∙ ap (option_map offset)
      (find-append (is_in_transition own) (lives_in Volatile (turned own a tidy)) (new_live (tail_offset region) new ∷ [])
      ∙ or_none (first_in InDeletedTransition own (lives_in Volatile (turned own a tidy))))
      ∙ old_there own a tidy
    where
      lives : lives_in Volatile grown ≡ lives_in Volatile (turned own a tidy) ++ new_live (tail_offset region) new ∷ []
      lives = AppendsAddOneLiveRecord-all region new fits_still (of_store Volatile new kept_in)

      or_none : (found : Option Live) → option_or found None ≡ found
      or_none None = refl
      or_none (Some live) = refl

  -- and the twin of the new one
  twin_there : old_place (places own a tidy) ≡ option_map offset (twin_of own (lives_in Volatile grown))
  twin_there = sym old_is ∙ by (first_in Added own (lives_in Volatile grown)) refl
    where
      by : (found : Option Live) → first_in Added own (lives_in Volatile grown) ≡ found
          → place_in InDeletedTransition own (lives_in Volatile grown) ≡ option_map offset (cond (is_some found) (first_in InDeletedTransition own (lives_in Volatile grown)) None)
      by None e = let none = none_in Volatile own grown Added e in let one = added.added in absurd (omega arith)
      by (Some live) e = refl

  pub old_stands : IfSome (old_place (places own a tidy)) (IsPlace Volatile grown 0x3E)
  old_stands = subst (λ place. IfSome place (IsPlace Volatile grown 0x3E)) old_is (place_is Volatile grown InDeletedTransition own)

  -- it goes
  abbrev pub left : List ℕ
  left = cleared (old_place (places own a tidy)) 0xFD grown

  last : IsTwinDropped Volatile own grown left
  last = by (old_place (places own a tidy)) refl old_stands
    where
      few : count_by (is_in_transition own) (lives_in Volatile grown) ≤ 1
      few = few_again Volatile new a (twinless own a tidy) (turned own a tidy) grown tidy (dropped own a tidy) (outdated own a tidy) added

      by : (place : Option ℕ) → old_place (places own a tidy) ≡ place → IfSome place (IsPlace Volatile grown 0x3E) → IsTwinDropped Volatile own grown (cleared place 0xFD grown)
      by None none is = dropped_none Volatile own grown (old_place (places own a tidy)) twin_there none
      by (Some at) some is =
          subst (IsTwinDropped Volatile own grown) (sym (cleared_at grown 0x3E 0xFD at is))
          (dropped_at Volatile own grown (old_place (places own a tidy)) at twin_there some few)

  pub put_is : IsPut Volatile own (new_variable new) a left
  put_is = put_done Volatile new a (twinless own a tidy) (turned own a tidy) grown left tidy fits (dropped own a tidy) (outdated own a tidy) added last

  pub put_edits : IsEdited Volatile (Put new) a left
  unfolding edit_spans
  put_edits = record {
    map = put_is.map;
    written = put_written Volatile new a (twinless own a tidy) (turned own a tidy) grown left tidy fits (dropped own a tidy) (outdated own a tidy) added last;
  }

  pub put_tail : tail_offset (store_region Volatile left) ≡ align4 (tail_offset (store_region Volatile a) + new_size new)
  put_tail =
      last.marked.tail ∙ (AppendsAddOneRecord-all region new 0x3F fits_still (omega arith)).offset
      ∙ ap (λ n. align4 (n + new_size new)) tail_kept

  -- the bytes of a put are these, step by step
  module _ (found : KeyPlaces) (is : found ≡ places own a tidy) (tail : ℕ) (at_tail : tail ≡ tail_offset (store_region Volatile a)) (twin old : Option ℕ)
      (twin_is : twin ≡ twin_place found) (old_is : old ≡ old_place found) where
    pub first_bytes : (first : List ℕ) → first ≡ cleared twin 0xFD a → first ≡ twinless own a tidy
    first_bytes first e = e ∙ ap (λ (place : Option ℕ). cleared place 0xFD a) (twin_is ∙ ap twin_place is)

    pub second_bytes : (first second : List ℕ) → first ≡ cleared twin 0xFD a → second ≡ cleared found.added 0xFE first → second ≡ turned own a tidy
    second_bytes first second e f =
        f ∙ ap (cleared found.added 0xFE) (first_bytes first e) ∙ ap (λ (p : KeyPlaces). cleared p.added 0xFE (twinless own a tidy)) is

    pub third_bytes : (first second third : List ℕ) → first ≡ cleared twin 0xFD a → second ≡ cleared found.added 0xFE first
        → third ≡ placed tail (new_bytes 0x3F new) second → third ≡ grown
    third_bytes first second third e f g =
        g ∙ ap (placed tail (new_bytes 0x3F new)) (second_bytes first second e f)
        ∙ ap (λ (n : ℕ). placed n (new_bytes 0x3F new) (turned own a tidy)) (at_tail ∙ sym tail_kept)

    pub last_bytes : (first second third fourth : List ℕ) → first ≡ cleared twin 0xFD a → second ≡ cleared found.added 0xFE first
        → third ≡ placed tail (new_bytes 0x3F new) second → fourth ≡ cleared old 0xFD third → fourth ≡ left
    last_bytes first second third fourth e f g h =
        h ∙ ap (cleared old 0xFD) (third_bytes first second third e f g) ∙ ap (λ (place : Option ℕ). cleared place 0xFD grown) (old_is ∙ ap old_place is)

    -- what each step asks for
    pub first_stands : IfSome twin (HasWholeRecord a)
    first_stands =
        subst (λ place. IfSome place (HasWholeRecord a)) (sym (twin_is ∙ ap twin_place is))
        (whole_at a 0x3E (twin_place (places own a tidy)) (twin_stands own a tidy))

    pub second_stands : (first : List ℕ) → first ≡ cleared twin 0xFD a → IfSome found.added (HasWholeRecord first)
    second_stands first e =
        subst (λ bytes. IfSome found.added (HasWholeRecord bytes)) (sym (first_bytes first e))
        (subst (λ (p : KeyPlaces). IfSome p.added (HasWholeRecord (twinless own a tidy))) (sym is)
        (whole_at (twinless own a tidy) 0x3F (places own a tidy).added (added_stands own a tidy)))

    pub last_stands : (first second third : List ℕ) → first ≡ cleared twin 0xFD a → second ≡ cleared found.added 0xFE first
        → third ≡ placed tail (new_bytes 0x3F new) second → IfSome old (HasWholeRecord third)
    last_stands first second third e f g =
        subst (λ bytes. IfSome old (HasWholeRecord bytes)) (sym (third_bytes first second third e f g))
        (subst (λ place. IfSome place (HasWholeRecord grown)) (sym (old_is ∙ ap old_place is))
        (whole_at grown 0x3E (old_place (places own a tidy)) old_stands))

-- ---- a removal
module _ (key : Key) (a : List ℕ) (tidy : IsTidy (store_region Volatile a)) (there : IsSome (lookup (is_at (key_cmp key)) (map_in Volatile a))) where
  one : count_by (is_added key) (lives_in Volatile (twinless key a tidy)) + count_by (is_in_transition key) (lives_in Volatile (twinless key a tidy)) ≡ 1
  one = removal_last Volatile key a (twinless key a tidy) tidy there (dropped key a tidy)

  abbrev pub gone : List ℕ
  gone = cleared (old_place (places key a tidy)) 0xFD (twinless key a tidy)

  -- the record that is left is the ADDED one, or the only one in transition
  record IsLastAt (place : Option ℕ) : Type 0 where
    whole : IfSome place (HasWholeRecord (twinless key a tidy))
    deleted : IsLastDeleted Volatile key (twinless key a tidy) (cleared place 0xFD (twinless key a tidy))

  last_at : IsLastAt (old_place (places key a tidy))
  last_at = by (places key a tidy).added refl (added_stands key a tidy)
    where
      bytes : List ℕ
      bytes = twinless key a tidy

      -- without an ADDED record there was no twin
      same : (places key a tidy).added ≡ None → a ≡ bytes
      same e = sym (ap (λ (place : Option ℕ). cleared (cond (is_some place) (places key a tidy).in_transition None) 0xFD a) e)

      transition : (places key a tidy).added ≡ None → (place : Option ℕ) → (places key a tidy).in_transition ≡ place → IsLastAt place
      transition e None f =
          let apart : place_in InDeletedTransition key (lives_in Volatile bytes) ≡ None =
          ap (λ list. place_in InDeletedTransition key (lives_in Volatile list)) (sym (same e)) ∙ f in
          absurd
          (one_there Volatile key bytes None None (sym (kept_added key a tidy ∙ e)) refl (sym apart) refl one)
      transition e (Some at) f =
          let is : place_in InDeletedTransition key (lives_in Volatile bytes) ≡ Some at =
          ap (λ list. place_in InDeletedTransition key (lives_in Volatile list)) (sym (same e)) ∙ f in
          let stands : IsPlace Volatile bytes 0x3E at = subst (λ place. IfSome place (IsPlace Volatile bytes 0x3E)) is (place_is Volatile bytes InDeletedTransition key) in
          record {
            whole = stands.whole;
            deleted =
                subst (IsLastDeleted Volatile key bytes) (sym (cleared_at bytes 0x3E 0xFD at stands))
                (deleted_at Volatile key bytes (Some at) InDeletedTransition 0x3C at refl (λ e. omega arith) (sym is) refl one);
          }

      by : (place : Option ℕ) → (places key a tidy).added ≡ place → IfSome place (IsPlace Volatile bytes 0x3F)
          → IsLastAt (option_or place (places key a tidy).in_transition)
      by None e stands = transition e (places key a tidy).in_transition refl
      by (Some at) e stands = record {
        whole = stands.whole;
        deleted =
            subst (IsLastDeleted Volatile key bytes) (sym (cleared_at bytes 0x3F 0xFD at stands))
            (deleted_at Volatile key bytes (Some at) Added 0x3D at refl (λ e. omega arith) (sym (kept_added key a tidy ∙ e)) refl one);
      }

  pub removed_is : IsRemoved Volatile key a gone
  removed_is = removed Volatile key a (twinless key a tidy) gone tidy (dropped key a tidy) last_at.deleted

  pub removed_in : IsWritten (remove_spans Volatile a key) a gone
  removed_in = removed_written Volatile key a (twinless key a tidy) gone tidy (dropped key a tidy) last_at.deleted

  pub removed_tail : tail_offset (store_region Volatile gone) ≡ tail_offset (store_region Volatile a)
  removed_tail = last_at.deleted.marked.tail ∙ (dropped key a tidy).marked.tail

  -- the bytes of a removal are these, step by step
  module _ (found : KeyPlaces) (is : found ≡ places key a tidy) (twin old : Option ℕ) (twin_is : twin ≡ twin_place found) (old_is : old ≡ old_place found) where
    twinless_bytes : (first : List ℕ) → first ≡ cleared twin 0xFD a → first ≡ twinless key a tidy
    twinless_bytes first e = e ∙ ap (λ (place : Option ℕ). cleared place 0xFD a) (twin_is ∙ ap twin_place is)

    pub gone_bytes : (first second : List ℕ) → first ≡ cleared twin 0xFD a → second ≡ cleared old 0xFD first → second ≡ gone
    gone_bytes first second e f =
        f ∙ ap (cleared old 0xFD) (twinless_bytes first e) ∙ ap (λ (place : Option ℕ). cleared place 0xFD (twinless key a tidy)) (old_is ∙ ap old_place is)

    -- what each step asks for
    pub twin_whole : IfSome twin (HasWholeRecord a)
    twin_whole =
        subst (λ place. IfSome place (HasWholeRecord a)) (sym (twin_is ∙ ap twin_place is))
        (whole_at a 0x3E (twin_place (places key a tidy)) (twin_stands key a tidy))

    pub old_whole : (first : List ℕ) → first ≡ cleared twin 0xFD a → IfSome old (HasWholeRecord first)
    old_whole first e =
        subst (λ bytes. IfSome old (HasWholeRecord bytes)) (sym (twinless_bytes first e))
        (subst (λ place. IfSome place (HasWholeRecord (twinless key a tidy))) (sym (old_is ∙ ap old_place is)) last_at.whole)
