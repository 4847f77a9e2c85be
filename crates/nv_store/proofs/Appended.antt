-- What a new record that is written at the tail of a store's bytes does.
use Rattle.std.proofs.Common.{◌≡◌, ◌≢◌, ⊎_elim, ℕ, ◌+◌, ◌≤◌, Bool, true, false, cond, List, [], ◌∷◌, ◌++◌, length, take, refl, sym, ap, subst, ◌∙◌, arith, count_by}
use Rattle.std.proofs.lemmas.Cmp.{eq_by_cmp_equiv}
use Rattle.std.proofs.lemmas.List.{take-take}
use Rattle.std.specs.BTreeMap.{is_at}
use Rattle.std.specs.List.{AllByRecursion}
use Rattle.var_types.proofs.Keys.{key_cmp_total}
use Rattle.var_types.proofs.Placed.{before_placed, length-placed}
use Rattle.var_types.proofs.Records.{has_all}
use Rattle.var_types.specs.Attributes.{store_of}
use Rattle.var_types.specs.Chosen.{is_added, is_in_transition, is_of}
use Rattle.var_types.specs.declared.key.Key.{Key}
use Rattle.var_types.specs.declared.record_state.RecordState.{RecordState}
use Rattle.var_types.specs.declared.record_state.RecordState.TheVariants.{Added, InDeletedTransition}
use Rattle.var_types.specs.declared.store.Store.{Store}
use Rattle.var_types.specs.Key.{key_cmp}
use Rattle.var_types.specs.Live.{Live}
use Rattle.var_types.specs.Placed.{placed}
use Rattle.var_types.specs.Record.{Authenticated, records}
use Rattle.var_types.specs.Region.{Region, region_records, tail_offset}
use Rattle.var_types.specs.Stores.{first_offset, map_in, store_region}
use Rattle.var_region.proofs.Appends.{AppendsAddOneLiveRecord-all, AppendsAddOneRecord-all, AppendsPutTheirVariable-all}
use Rattle.var_region.proofs.NewRecords.{length-new_bytes}
use Rattle.var_region.proofs.Read.{read_all, tail_onward}
use Rattle.var_region.proofs.Stored.{each_region}
use Rattle.var_region.specs.declared.new_record.NewRecord.{NewRecord}
use Rattle.var_region.specs.NewRecord.{new_bytes, new_key, new_live, new_size, new_variable}
use Rattle.var_region.specs.Written.{FitsBehind}
use Rattle.nv_store.specs.Changes.{lives_in}
use Rattle.nv_store.specs.Places.{new_span, stands_in}
use Rattle.nv_store.specs.Steps.{IsAdded, IsApart, IsOutside, IsTouched}
use Rattle.nv_store.proofs.Counts.{count-append, count-cons, none_counted}
use Rattle.nv_store.proofs.Ranges.{placed_before, placed_behind}
use Rattle.nv_store.proofs.Rewritten.{of_store}

-- a region's tail is behind where its records begin
pub tail_low : (region : Region) → region.first ≤ tail_offset region
unfolding tail_offset region_records
tail_low =
    each_region (λ region. region.first ≤ tail_offset region)
    (λ bytes first nv. tail_onward bytes first (records Authenticated bytes first) (read_all bytes first (records Authenticated bytes first) (has_all Authenticated bytes first)))

-- what holds of each of some, and of one more
each_more : {X : Type 0} (P : X → Type 0) (xs : List X) (x : X) → AllByRecursion P xs → P x → AllByRecursion P (xs ++ x ∷ [])
each_more P [] x all h = (h, tt)
each_more P (y ∷ xs) x all h = (all.0, each_more P xs x all.1 h)

module _ (store : Store) (old : List ℕ) (new : NewRecord) (fits : FitsBehind (store_region store old) new) (kept_in : store_of new.attributes ≡ store) where
  abbrev region : Region
  region = store_region store old

  abbrev tail : ℕ
  tail = tail_offset region

  abbrev bytes : List ℕ
  bytes = placed tail (new_bytes 0x3F new) old

  abbrev live : Live
  live = new_live tail new

  len : length (new_bytes 0x3F new) ≡ new_size new
  len = length-new_bytes 0x3F new (omega arith) fits.is

  room : tail + length (new_bytes 0x3F new) ≤ length old
  room = let fit = fits.room in omega (arith, len)

  lives : lives_in store bytes ≡ lives_in store old ++ live ∷ []
  lives = AppendsAddOneLiveRecord-all region new fits (of_store store new kept_in)

  -- how many more pass a test
  more : (p : Live → Bool) (b : Bool) → p live ≡ b → count_by p (lives_in store bytes) ≡ count_by p (lives_in store old) + cond b 1 0
  more p b e =
      ap (count_by p) lives
      ∙ omega (arith, count-append p (lives_in store old) (live ∷ []), count-cons p live [])
      ∙ ap (λ b. count_by p (lives_in store old) + cond b 1 0) e

  other_key : (other : Key) (state : RecordState) → is_at (key_cmp (new_key new)) other ≡ false → stands_in state other live ≡ false
  other_key other state apart =
      let apart_too : is_of other live ≡ false = (eq_by_cmp_equiv key_cmp_total).symm other (new_key new) ∙ apart in
      by state apart_too
    where
      by : (state : RecordState) → is_of other live ≡ false → stands_in state other live ≡ false
      by Added e = e
      by InDeletedTransition e = refl

  pub appended_touched : IsTouched store (new_key new) (new_span region new) old bytes
  appended_touched = record {
    same = record {
      len = length-placed tail (new_bytes 0x3F new) old room;
      headers =
          let low = tail_low region in
          sym (take-take (first_offset store) tail bytes low)
          ∙ ap (take (first_offset store)) (before_placed tail (new_bytes 0x3F new) old room)
          ∙ take-take (first_offset store) tail old low;
    };
    clean = λ clean. (AppendsAddOneRecord-all region new 0x3F fits (omega arith)).clean;
    others = λ other state apart.
        let same = more (stands_in state other) false (other_key other state apart) in
        omega (arith, same);
    apart = λ at outside away.
        subst (IsApart (new_key new) at) (sym lives)
        (each_more (λ (l : Live). is_of (new_key new) l ≡ true → l.at + 2 ≢ at) (lives_in store old) live away (λ mine here. here_no at outside here));
    bytes = λ at outside away.
        ⊎_elim (placed_before tail (new_bytes 0x3F new) old room at)
        (λ high. placed_behind tail (new_bytes 0x3F new) old room at (omega (arith, len, high))) outside;
  }
    where
      here_no : (at : ℕ) → IsOutside (new_span region new) at → tail + 2 ≡ at → ⊥
      here_no at outside here = ⊎_elim (λ low. omega arith) (λ high. omega arith) outside

  pub appended_is : count_by (is_added (new_key new)) (lives_in store old) ≡ 0
      → IsAdded store (new_key new) (new_variable new) (new_span region new) old bytes
  unfolding map_in
  appended_is none =
      let own : is_of (new_key new) live ≡ true = (eq_by_cmp_equiv key_cmp_total).refl (new_key new) in
      let one = more (is_added (new_key new)) true own in
      let same = more (is_in_transition (new_key new)) false refl in
      record {
        touched = appended_touched;
        map = AppendsPutTheirVariable-all region new fits (of_store store new kept_in) (none_counted (is_added (new_key new)) (lives_in store old) none);
        added = one ∙ omega (arith, none);
        rest = same ∙ omega arith;
      }
