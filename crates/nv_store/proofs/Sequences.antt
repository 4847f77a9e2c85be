-- The steps of a write in place, one after the other: a put, and a removal.
use Rattle.std.proofs.Common.{◌≡◌, inl, inr, ⊎_elim, ℕ, zero, suc, ◌+◌, ◌≤◌, Bool, true, false, cond, ◌&&◌, List, [], ◌∷◌, length, nat_le, IfSome, IsSome, Option, Some, None, refl, sym, ap, subst, ◌∙◌, arith, count_by}
use Rattle.std.proofs.lemmas.Bool.{le-leb}
use Rattle.std.specs.BTreeMap.{insert_entry, is_at}
use Rattle.std.specs.Cmp.{Equal-is}
use Rattle.std.specs.Map.{lookup, remove_entry}
use Rattle.std.specs.Option.{option_map}
use Rattle.var_types.proofs.Keys.{same_key}
use Rattle.var_types.specs.Chosen.{is_added, is_in_transition, is_of}
use Rattle.var_types.specs.declared.key.Key.{Key}
use Rattle.var_types.specs.declared.record_state.RecordState.{RecordState}
use Rattle.var_types.specs.declared.record_state.RecordState.TheVariants.{Added, InDeletedTransition}
use Rattle.var_types.specs.declared.span.Span.{Span}
use Rattle.var_types.specs.declared.store.Store.{Store}
use Rattle.var_types.specs.Key.{key_cmp}
use Rattle.var_types.specs.Live.{Live}
use Rattle.var_types.specs.Region.{tail_offset}
use Rattle.var_types.specs.Spans.{AreWithin, IsInside, IsWritten}
use Rattle.var_types.specs.Stores.{map_in, store_region}
use Rattle.var_region.specs.declared.new_record.NewRecord.{NewRecord}
use Rattle.var_region.specs.NewRecord.{new_key, new_size, new_variable}
use Rattle.var_region.specs.WritingLaws.{state_byte}
use Rattle.var_region.specs.Written.{FitsBehind, fits_behind}
use Rattle.nv_store.specs.Changes.{IsPut, IsRemoved, lives_in}
use Rattle.nv_store.specs.Places.{anew_spans, byte_span, first_in, in_place_spans, new_span, nowhere, put_spans, remove_spans, stands_in, state_span}
use Rattle.nv_store.specs.Steps.{IsAdded, IsApart, IsLastDeleted, IsOutdated, IsPlace, IsTouched, IsTwinDropped}
use Rattle.nv_store.specs.Tidy.{IsTidy}
use Rattle.nv_store.proofs.Counts.{count_none, count_some}
use Rattle.nv_store.proofs.Mapped.{mapped_any}
use Rattle.nv_store.proofs.Ranges.{apart_of, away_from, outside_of, pasted_is}
use Rattle.nv_store.proofs.Singles.{single_at}
use Rattle.nv_store.proofs.Standing.{anywhere, place_is}
use Rattle.nv_store.proofs.Turned.{count-both}

module _ (store : Store) (key : Key) where
  -- what changes nowhere else changes in no wider range else
  pub touched_wider : (span : Span) (a b : List ℕ) → IsTouched store key nowhere a b → IsTouched store key span a b
  touched_wider span a b is = record {
    same = is.same;
    clean = is.clean;
    others = is.others;
    apart = λ at outside away. is.apart at (anywhere at) away;
    bytes = λ at outside away. is.bytes at (anywhere at) away;
  }

  -- one change and another
  pub touched_then : (span : Span) (a b c : List ℕ) → IsTouched store key span a b → IsTouched store key span b c → IsTouched store key span a c
  touched_then span a b c first second = record {
    same = record { len = second.same.len ∙ first.same.len; headers = second.same.headers ∙ first.same.headers };
    clean = λ clean. second.clean (first.clean clean);
    others = λ other state apart. let x = first.others other state apart in let y = second.others other state apart in omega arith;
    apart = λ at outside away. second.apart at outside (first.apart at outside away);
    bytes = λ at outside away. second.bytes at outside (first.apart at outside away) ∙ first.bytes at outside away;
  }

  -- no other key has two records in one state then
  tidy_after : (span : Span) (a b : List ℕ) → IsTouched store key span a b → IsTidy (store_region store a)
      → ((state : RecordState) → count_by (stands_in state key) (lives_in store b) ≤ 1) → IsTidy (store_region store b)
  tidy_after span a b touched tidy mine = record {
    clean = touched.clean tidy.clean;
    single = record { added = each Added; in_transition = each InDeletedTransition };
  }
    where
      each : (state : RecordState) (other : Key) → count_by (stands_in state other) (lives_in store b) ≤ 1
      each state other = by (is_at (key_cmp key) other) refl
        where
          by : (b' : Bool) → is_at (key_cmp key) other ≡ b' → count_by (stands_in state other) (lives_in store b) ≤ 1
          by true e =
              subst (λ k. count_by (stands_in state k) (lives_in store b) ≤ 1) (same_key key other ((Equal-is (key_cmp key other)).0 e)) (mine state)
          by false e = let fewer = touched.others other state e in let old = single_at (lives_in store a) tidy.single state other in omega arith

  -- the state byte of the first record in a state is within the bytes
  span_within : (bytes : List ℕ) (state : RecordState) (size : ℕ) → length bytes ≡ size
      → AreWithin (state_span (first_in state key (lives_in store bytes)) ∷ []) size
  span_within bytes state size len = by (option_map (λ (live : Live). live.at) (first_in state key (lives_in store bytes))) (place_is store bytes state key)
    where
      by : (place : Option ℕ) → IfSome place (IsPlace store bytes (state_byte state)) → AreWithin (byte_span place ∷ []) size
      by None is = (omega arith, (omega arith, tt))
      by (Some at) is = let room = is.room in (omega arith, (omega (arith, room, len), tt))

  -- bytes that changed in a range, and in the key's state bytes
  apart_by : (bytes : List ℕ) → IsTidy (store_region store bytes) → (k : ℕ)
      → (IsInside k (state_span (first_in InDeletedTransition key (lives_in store bytes)) ∷ []) → ⊥)
      → (IsInside k (state_span (first_in Added key (lives_in store bytes)) ∷ []) → ⊥) → IsApart key k (lives_in store bytes)
  apart_by bytes tidy k twin added =
      apart_of key k (lives_in store bytes)
      (away_from Added key k (lives_in store bytes) (tidy.single.added key) added)
      (away_from InDeletedTransition key k (lives_in store bytes) (tidy.single.in_transition key) twin)

  -- a removal
  pub removal_last : (a b : List ℕ) → IsTidy (store_region store a) → IsSome (lookup (is_at (key_cmp key)) (map_in store a)) → IsTwinDropped store key a b
      → count_by (is_added key) (lives_in store b) + count_by (is_in_transition key) (lives_in store b) ≡ 1
  unfolding map_in
  removal_last a b tidy there dropped =
      by (count_by (is_added key) (lives_in store a)) refl
    where
      some : 1 ≤ count_by (is_of key) (lives_in store a)
      some = count_some (is_of key) (lives_in store a) (mapped_any key (store_region store a) there)

      by : (n : ℕ) → count_by (is_added key) (lives_in store a) ≡ n
          → count_by (is_added key) (lives_in store b) + count_by (is_in_transition key) (lives_in store b) ≡ 1
      by zero e =
          let twins = dropped.alone e in
          let same = dropped.added in
          omega (arith, some, count-both key (lives_in store a), tidy.single.in_transition key, same, twins)
      by (suc m) e =
          let twins = dropped.gone (omega (arith, e)) in
          let same = dropped.added in
          omega (arith, tidy.single.added key, same, twins)

  pub removed : (a b c : List ℕ) → IsTidy (store_region store a) → IsTwinDropped store key a b → IsLastDeleted store key b c → IsRemoved store key a c
  removed a b c tidy dropped deleted =
      let touched = touched_then nowhere a b c dropped.marked.touched deleted.marked.touched in
      record {
        same = touched.same;
        map = deleted.map ∙ ap (remove_entry (is_at (key_cmp key))) dropped.map;
        gone = deleted.gone;
        tidy = tidy_after nowhere a c touched tidy mine;
      }
    where
      none : count_by (is_of key) (lives_in store c) ≡ 0
      none = count_none (is_of key) (lives_in store c) deleted.gone

      mine : (state : RecordState) → count_by (stands_in state key) (lives_in store c) ≤ 1
      mine Added = omega (arith, none, count-both key (lives_in store c))
      mine InDeletedTransition = omega (arith, none, count-both key (lives_in store c))

  pub removed_written : (a b c : List ℕ) → IsTidy (store_region store a) → IsTwinDropped store key a b → IsLastDeleted store key b c
      → IsWritten (remove_spans store a key) a c
  unfolding remove_spans
  removed_written a b c tidy dropped deleted =
      let touched = touched_then nowhere a b c dropped.marked.touched deleted.marked.touched in
      record {
        len = touched.same.len;
        pasted =
            pasted_is
            (state_span (first_in InDeletedTransition key (lives_in store a)) ∷ state_span (first_in Added key (lives_in store a)) ∷ []) a c touched.same.len
            (let twin = span_within a InDeletedTransition (length a) refl in let added = span_within a Added (length a) refl in (twin.0, (twin.1.0, added)))
            (λ k outside.
            touched.bytes k (anywhere k)
            (apart_by a tidy k
            (λ inside. outside (⊎_elim inl (λ none. absurd none) inside))
            (λ inside. outside (inr inside))));
      }

-- a put
module _ (store : Store) (new : NewRecord) (a b c d e : List ℕ) (tidy : IsTidy (store_region store a)) (fits : FitsBehind (store_region store a) new)
    (dropped : IsTwinDropped store (new_key new) a b) (outdated : IsOutdated store (new_key new) b c)
    (added : IsAdded store (new_key new) (new_variable new) (new_span (store_region store c) new) c d) (last : IsTwinDropped store (new_key new) d e) where
  abbrev key : Key
  key = new_key new

  abbrev span : Span
  span = new_span (store_region store a) new

  same_span : new_span (store_region store c) new ≡ span
  same_span = ap (λ n. record { from = n; to = n + new_size new }) (outdated.marked.tail ∙ dropped.marked.tail)

  touched : IsTouched store key span a e
  touched =
      touched_then store key span a b e (touched_wider store key span a b dropped.marked.touched)
      (touched_then store key span b c e (touched_wider store key span b c outdated.marked.touched)
      (touched_then store key span c d e (subst (λ s. IsTouched store key s c d) same_span added.touched) (touched_wider store key span d e last.marked.touched)))

  one : count_by (is_added key) (lives_in store e) ≡ 1
  one = last.added ∙ added.added

  rest : count_by (is_in_transition key) (lives_in store e) ≡ 0
  rest = let more = added.added in last.gone (omega arith)

  pub put_done : IsPut store key (new_variable new) a e
  put_done = record {
    same = touched.same;
    map = last.map ∙ added.map ∙ ap (λ es. insert_entry key_cmp es key (new_variable new)) (outdated.map ∙ dropped.map);
    added = one;
    rest = rest;
    tidy = tidy_after store key span a e touched tidy mine;
  }
    where
      mine : (state : RecordState) → count_by (stands_in state key) (lives_in store e) ≤ 1
      mine Added = omega (arith, one)
      mine InDeletedTransition = omega (arith, rest)

  in_place : fits_behind (store_region store a) (new_size new) ≡ true
  in_place = ap (λ t. t && nat_le (tail_offset (store_region store a) + new_size new) (length a)) fits.clean ∙ le-leb (tail_offset (store_region store a) + new_size new) (length a) fits.room

  pub put_written : IsWritten (put_spans store a new) a e
  unfolding put_spans
  put_written =
      subst (λ t. IsWritten (cond t (in_place_spans (store_region store a) new) (anew_spans (store_region store a))) a e) (sym in_place)
      (record {
        len = touched.same.len;
        pasted =
            pasted_is (in_place_spans (store_region store a) new) a e touched.same.len
            (let twin = span_within store key a InDeletedTransition (length a) refl in
            let old = span_within store key a Added (length a) refl in
            let room = fits.room in
            (twin.0, (twin.1.0, (old.0, (old.1.0, (omega arith, (room, tt)))))))
            (λ k outside.
            touched.bytes k (outside_of span k (λ inside. outside (inr (inr (inl inside)))))
            (apart_by store key a tidy k
            (λ inside. outside (⊎_elim inl (λ none. absurd none) inside))
            (λ inside. outside (inr (⊎_elim inl (λ none. absurd none) inside)))));
      })

-- what each step of a put asks for, of what the ones before it left
module _ (store : Store) (new : NewRecord) (a b c d : List ℕ) (tidy : IsTidy (store_region store a)) (dropped : IsTwinDropped store (new_key new) a b) where
  pub few_added : count_by (is_added (new_key new)) (lives_in store b) ≤ 1
  few_added = let same = dropped.added in omega (arith, tidy.single.added (new_key new))

  pub few_twins : count_by (is_in_transition (new_key new)) (lives_in store b) ≤ 1
  few_twins = let fewer = dropped.fewer in omega (arith, tidy.single.in_transition (new_key new))

  pub no_twin : 1 ≤ count_by (is_added (new_key new)) (lives_in store b) → count_by (is_in_transition (new_key new)) (lives_in store b) ≡ 0
  no_twin some = let same = dropped.added in dropped.gone (omega arith)

  module _ (outdated : IsOutdated store (new_key new) b c) where
    pub still_fits : FitsBehind (store_region store a) new → FitsBehind (store_region store c) new
    still_fits fits = record {
      is = fits.is;
      clean = outdated.marked.touched.clean (dropped.marked.touched.clean fits.clean);
      room =
          let first = dropped.marked.tail in
          let second = outdated.marked.tail in
          let room = fits.room in
          let len = outdated.marked.touched.same.len in
          let more = dropped.marked.touched.same.len in
          omega arith;
    }

    pub few_again : IsAdded store (new_key new) (new_variable new) (new_span (store_region store c) new) c d
        → count_by (is_in_transition (new_key new)) (lives_in store d) ≤ 1
    few_again added = let same = added.rest in let few = outdated.few in omega arith
