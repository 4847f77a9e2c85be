-- What a store's bytes that were written anew are read as.
use Rattle.std.proofs.Common.{◌≡◌, ℕ, ◌-◌, ◌%◌, ◌≤◌, ◌<◌, Bool, true, false, cond, List, ◌++◌, length, take, replicate, nat_lt, ltb-false, ltb-true, refl, sym, ap, subst, ◌∙◌, arith, length-append, None, Result, Ok, Err, IsSome}
use Rattle.std.proofs.lemmas.List.{length-replicate, length-take-le, take_at}
use Rattle.std.specs.BTreeMap.{is_at}
use Rattle.std.specs.List.{list_any}
use Rattle.std.specs.Map.{lookup}
use Rattle.var_types.specs.Attributes.{has, non_volatile_bit, store_of}
use Rattle.var_types.specs.Chosen.{is_of}
use Rattle.var_types.specs.declared.store.Store.{Store}
use Rattle.var_types.specs.declared.store.Store.TheVariants.{NonVolatile, Volatile}
use Rattle.var_types.specs.Key.{key_cmp}
use Rattle.var_types.specs.Record.{Authenticated}
use Rattle.var_types.specs.Region.{Region, region_lives, region_map}
use Rattle.var_types.specs.Stores.{first_offset, is_non_volatile, map_in, store_region}
use Rattle.var_region.specs.declared.new_record.NewRecord.{NewRecord}
use Rattle.var_region.specs.NewRecord.{IsNew, IsOfStore, new_key, new_variable}
use Rattle.region_compact.specs.Compacted.{compact_into, compacted, size_after}
use Rattle.region_compact.specs.declared.no_room.NoRoom.{NoRoom}
use Rattle.region_compact.specs.declared.replace.Replace.{Replace}
use Rattle.region_compact.specs.declared.replace.Replace.TheVariants.{None as Keep, Put}
use Rattle.region_compact.specs.Laws.{EachKeyOnce, anew}
use Rattle.region_compact.specs.Replace.{IsReplaceIn, map_after}
use Rattle.region_compact.proofs.MapAfter.{CompactionsKeepTheMap-all}
use Rattle.region_compact.proofs.Orders.{CompactionsHaveTheirSize-all, CompactionsLeaveOrder-all}
use Rattle.nv_store.specs.Anew.{HasRoom, anew_bytes, room_in}
use Rattle.nv_store.specs.Changes.{IsPut, IsRepacked, IsSameStore, lives_in}
use Rattle.nv_store.specs.Tidy.{IsTidy}
use Rattle.nv_store.proofs.Fits.{kept_fit}
use Rattle.nv_store.proofs.Mapped.{mapped_any, put_mapped}
use Rattle.nv_store.proofs.Singles.{once_added, once_none, once_single}

-- a compaction that was done
pub record IsDone (region : Region) (replace : Replace) (into left : List ℕ) : Type 0 where
  pub fits : size_after region replace ≤ length into
  pub bytes : left ≡ compacted region replace ++ replicate (length into - size_after region replace) 0xFF

pub was_done : (region : Region) (replace : Replace) (into left : List ℕ) (n : ℕ) (result : Result ℕ NoRoom) → result ≡ Ok n
    → (result, left) ≡ compact_into region replace into → IsDone region replace into left
unfolding compact_into
was_done region replace into left n result is e = by (nat_lt (length into) (size_after region replace)) refl (ap (λ r. (r, left)) (sym is) ∙ e)
  where
    full : Result ℕ NoRoom × List ℕ
    full = (Err (record { need = size_after region replace; have = length into }), into)

    written : Result ℕ NoRoom × List ℕ
    written = (Ok (size_after region replace), compacted region replace ++ replicate (length into - size_after region replace) 0xFF)

    by : (b : Bool) → nat_lt (length into) (size_after region replace) ≡ b → (Ok n, left) ≡ cond b full written → IsDone region replace into left
    by true lt e = let no : Ok n ≡ full.0 = ap (λ p. p.0) e in cc
    by false lt e = record { fits = ltb-false (length into) (size_after region replace) lt; bytes = ap (λ p. p.1) e }

-- a compaction that had no room
pub record IsFull (region : Region) (replace : Replace) (into left : List ℕ) (refusal : NoRoom) : Type 0 where
  pub full : refusal ≡ record { need = size_after region replace; have = length into }
  pub room : length into < size_after region replace
  pub same : left ≡ into

pub was_full : (region : Region) (replace : Replace) (into left : List ℕ) (full : NoRoom) (result : Result ℕ NoRoom) → result ≡ Err full
    → (result, left) ≡ compact_into region replace into → IsFull region replace into left full
unfolding compact_into
was_full region replace into left full result is e =
    by (nat_lt (length into) (size_after region replace)) refl (ap (λ r. (r, left)) (sym is) ∙ e)
  where
    refused : Result ℕ NoRoom × List ℕ
    refused = (Err (record { need = size_after region replace; have = length into }), into)

    written : Result ℕ NoRoom × List ℕ
    written = (Ok (size_after region replace), compacted region replace ++ replicate (length into - size_after region replace) 0xFF)

    by : (b : Bool) → nat_lt (length into) (size_after region replace) ≡ b → (Err full, left) ≡ cond b refused written → IsFull region replace into left full
    by true lt e =
        let first : Err full ≡ refused.0 = ap (λ p. p.0) e in
        record { full = cc; room = ltb-true (length into) (size_after region replace) lt; same = ap (λ p. p.1) e }
    by false lt e = let no : Err full ≡ written.0 = ap (λ p. p.0) e in cc

-- a store's records begin at a multiple of 4
pub first_even : (store : Store) → first_offset store % 4 ≡ 0
first_even NonVolatile = refl
first_even Volatile = refl

module _ (store : Store) (bytes : List ℕ) (replace : Replace) (within : first_offset store ≤ length bytes) (is : IsReplaceIn (is_non_volatile store) replace)
    (fits : HasRoom store bytes replace) where
  abbrev region : Region
  region = store_region store bytes

  abbrev front : List ℕ
  front = take (first_offset store) bytes

  abbrev left : ℕ
  left = room_in store bytes - size_after region replace

  front_size : length front ≡ first_offset store
  front_size = length-take-le (first_offset store) bytes within

  front_even : length front % 4 ≡ 0
  front_even = ap (λ n. n % 4) front_size ∙ first_even store

  -- the region that they are
  pub anew_region : store_region store (anew_bytes store bytes replace) ≡ anew region replace front left
  unfolding anew_bytes
  anew_region =
      ap (λ n. record { form = Authenticated; bytes = front ++ (compacted region replace ++ replicate left 0xFF); first = n; non_volatile = is_non_volatile store })
      (sym front_size)

  pub anew_same : IsSameStore store bytes (anew_bytes store bytes replace)
  unfolding anew_bytes
  anew_same = record {
    len =
        let size = CompactionsHaveTheirSize-all region replace is in
        omega (arith, length-append front (compacted region replace ++ replicate left 0xFF), length-append (compacted region replace) (replicate left 0xFF), length-replicate {A = ℕ} left 255, front_size);
    headers = take_at front (compacted region replace ++ replicate left 0xFF) (first_offset store) front_size;
  }

  pub anew_map : map_in store (anew_bytes store bytes replace) ≡ map_after replace (map_in store bytes)
  unfolding map_in
  anew_map = ap region_map anew_region ∙ CompactionsKeepTheMap-all region replace front left is front_even

  pub anew_once : EachKeyOnce (lives_in store (anew_bytes store bytes replace))
  anew_once =
      subst (λ (r : Region). EachKeyOnce (region_lives r)) (sym anew_region) ((CompactionsLeaveOrder-all region replace front left is front_even).once)

  pub anew_tidy : IsTidy (store_region store (anew_bytes store bytes replace))
  anew_tidy =
      subst IsTidy (sym anew_region)
      (let order = CompactionsLeaveOrder-all region replace front left is front_even in
      record { clean = order.clean; single = once_single (region_lives (anew region replace front left)) order.once })

-- a new record of a store has the attribute for it
pub of_store : (store : Store) (new : NewRecord) → store_of new.attributes ≡ store → IsOfStore (is_non_volatile store) new
of_store Volatile new e nv = cc
of_store NonVolatile new e nv = by (has new.attributes non_volatile_bit) e
  where
    by : (b : Bool) → cond b NonVolatile Volatile ≡ NonVolatile → b ≡ true
    by true e = refl
    by false e = cc

-- a new record with the attribute is the non-volatile store's
pub non_volatile_of : (new : NewRecord) → has new.attributes non_volatile_bit ≡ true → store_of new.attributes ≡ NonVolatile
non_volatile_of new e = ap (λ b. cond b NonVolatile Volatile) e

-- bytes written anew with a new record are a put of it
pub put_is : (store : Store) (bytes : List ℕ) (new : NewRecord) → first_offset store ≤ length bytes → IsNew new → store_of new.attributes ≡ store
    → HasRoom store bytes (Put new) → IsPut store (new_key new) (new_variable new) bytes (anew_bytes store bytes (Put new))
unfolding map_in
put_is store bytes new within is kept_in fits =
    let of = of_store store new kept_in in
    let map = anew_map store bytes (Put new) within (is, of) fits in
    let once = anew_once store bytes (Put new) within (is, of) fits in
    let ls = lives_in store (anew_bytes store bytes (Put new)) in
    let any : list_any (is_of (new_key new)) ls ≡ true =
    mapped_any (new_key new) (store_region store (anew_bytes store bytes (Put new)))
    (subst (λ es. IsSome (lookup (is_at (key_cmp (new_key new))) es)) (sym map) (put_mapped (new_key new) (new_variable new) (map_in store bytes))) in
    record {
      same = anew_same store bytes (Put new) within (is, of) fits;
      map = map;
      added = once_added (new_key new) ls once ∙ ap (λ b. cond b 1 0) any;
      rest = once_none (new_key new) ls once;
      tidy = anew_tidy store bytes (Put new) within (is, of) fits;
    }

-- bytes written anew with no change
pub repacked_is : (store : Store) (bytes : List ℕ) → first_offset store ≤ length bytes → HasRoom store bytes Keep
    → IsRepacked store bytes (anew_bytes store bytes Keep)
repacked_is store bytes within fits = record {
  same = anew_same store bytes Keep within tt fits;
  map = anew_map store bytes Keep within tt fits;
  tidy = anew_tidy store bytes Keep within tt fits;
}

-- what counts has always room
pub always_room : (store : Store) (bytes : List ℕ) → first_offset store ≤ length bytes → length bytes % 4 ≡ 0 → HasRoom store bytes Keep
unfolding size_after
always_room store bytes within even =
    let fit = kept_fit (store_region store bytes) None even (first_even store) within in
    omega arith
