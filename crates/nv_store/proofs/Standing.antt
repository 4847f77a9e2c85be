-- The record that is found first of a key in a state, and what another state byte of it leaves.
use Rattle.std.proofs.Common.{◌≡◌, ◌≢◌, inr, ℕ, ◌+◌, ◌≤◌, Bool, true, false, cond, List, [], ◌∷◌, ◌++◌, get_or, IfSome, Option, Some, None, refl, sym, ap, subst, ◌∙◌, arith, count_by, length-set}
use Rattle.std.proofs.lemmas.List.{get_or-set_other, take-set-le}
use Rattle.std.specs.BTreeMap.{is_at}
use Rattle.std.specs.List.{AllByRecursion}
use Rattle.std.specs.Option.{option_map}
use Rattle.var_types.specs.Chosen.{is_of}
use Rattle.var_types.specs.declared.key.Key.{Key}
use Rattle.var_types.specs.declared.record_state.RecordState.{RecordState}
use Rattle.var_types.specs.declared.store.Store.{Store}
use Rattle.var_types.specs.Key.{key_cmp}
use Rattle.var_types.specs.Live.{Live, with_live}
use Rattle.var_types.specs.Region.{Region}
use Rattle.var_types.specs.RecordState.{record_state}
use Rattle.var_types.specs.Stores.{first_offset, store_region}
use Rattle.var_region.proofs.Marks.{MarksRestateOneLiveRecord-all}
use Rattle.var_region.proofs.Stored.{LiveRecordsStandWhole-all}
use Rattle.var_region.specs.WritingLaws.{IsRestated, StandsWhole, state_byte}
use Rattle.var_region.specs.Written.{state_set}
use Rattle.nv_store.specs.Changes.{IsSameStore, lives_in}
use Rattle.nv_store.specs.Places.{first_in, nowhere, stands_in}
use Rattle.nv_store.specs.Steps.{IsApart, IsMarked, IsOutside, IsPlace}
use Rattle.nv_store.proofs.Counts.{count-among, count-fewer}
use Rattle.nv_store.proofs.Firsts.{each_found, first_found}
use Rattle.nv_store.proofs.Singles.{own_key, stands_key, stands_state}

-- where the first record of a key in a state stands
pub place_is : (store : Store) (bytes : List ℕ) (state : RecordState) (key : Key)
    → IfSome (option_map (λ (live : Live). live.at) (first_in state key (lives_in store bytes))) (IsPlace store bytes (state_byte state))
place_is store bytes state key = by (first_in state key (lives_in store bytes)) refl
  where
    by : (found : Option Live) → first_in state key (lives_in store bytes) ≡ found
        → IfSome (option_map (λ (live : Live). live.at) found) (IsPlace store bytes (state_byte state))
    by None e = tt
    by (Some live) e =
        let p = stands_in state key in
        let whole = each_found p (StandsWhole (store_region store bytes)) (lives_in store bytes) (LiveRecordsStandWhole-all (store_region store bytes)) live e in
        record {
          low = whole.low;
          room = whole.room;
          byte = whole.byte ∙ ap state_byte (stands_state state key live ((first_found p (lives_in store bytes) live e).passes));
          whole = whole.whole;
        }

-- what holds of each holds of one among others
among : {X : Type 0} (P : X → Type 0) (fs : List X) (x : X) (bs : List X) → AllByRecursion P (fs ++ x ∷ bs) → P x
among P [] x bs all = all.0
among P (f ∷ fs) x bs all = among P fs x bs all.1

-- and of the others without it
pub others_of : {X : Type 0} (P : X → Type 0) (fs : List X) (x : X) (bs : List X) → AllByRecursion P (fs ++ x ∷ bs) → AllByRecursion P (fs ++ bs)
others_of P [] x bs all = all.1
others_of P (f ∷ fs) x bs all = (all.0, others_of P fs x bs all.1)

-- and with another in its place
pub replaced_in : {X : Type 0} (P : X → Type 0) (fs : List X) (x y : X) (bs : List X) → (P x → P y) → AllByRecursion P (fs ++ x ∷ bs)
    → AllByRecursion P (fs ++ y ∷ bs)
replaced_in P [] x y bs h all = (h all.0, all.1)
replaced_in P (f ∷ fs) x y bs h all = (all.0, replaced_in P fs x y bs h all.1)

-- no offset is in a range of no bytes
pub anywhere : (at : ℕ) → IsOutside nowhere at
anywhere at = inr (omega arith)

module _ (store : Store) (old : List ℕ) (key : Key) (fs bs : List Live) (live : Live) (split : lives_in store old ≡ fs ++ live ∷ bs)
    (mine : is_of key live ≡ true) where
  abbrev region : Region
  region = store_region store old

  whole : StandsWhole region live
  whole = among (StandsWhole region) fs live bs (subst (AllByRecursion (StandsWhole region)) split (LiveRecordsStandWhole-all region))

  -- a record of another key doesn't stand under this one
  other_key : (other : Key) (state said : RecordState) → is_at (key_cmp key) other ≡ false → stands_in state other (record live { state = said }) ≡ false
  other_key other state said apart = by (stands_in state other (record live { state = said })) refl
    where
      by : (b : Bool) → stands_in state other (record live { state = said }) ≡ b → b ≡ false
      by false e = refl
      by true e =
          let own : other ≡ live.key = stands_key state other (record live { state = said }) e in
          let same : key ≡ live.key = own_key key live mine in
          let no : true ≡ false = sym mine ∙ ap (is_at (key_cmp key)) (sym own) ∙ apart in
          cc

  module _ (state : ℕ) (apart : state ≢ 0xFF) where
    abbrev new : List ℕ
    new = state_set live.at state old

    restated : IsRestated region fs bs live state new
    restated = MarksRestateOneLiveRecord-all region fs bs live state split apart

    same : IsSameStore store old new
    same = record {
      len = length-set old (live.at + 2) state;
      headers = let low = whole.low in take-set-le (first_offset store) old (live.at + 2) state (omega arith);
    }

    stays : (at : ℕ) → IsApart key at (lives_in store old) → get_or new at 0 ≡ get_or old at 0
    stays at away =
        let here : live.at + 2 ≢ at = among (λ (l : Live). is_of key l ≡ true → l.at + 2 ≢ at) fs live bs (subst (IsApart key at) split away) mine in
        get_or-set_other old (live.at + 2) at state 0 (λ e. here (sym e))

    -- where the state says nothing, the record is live no more
    pub lives_gone : record_state state ≡ None → lives_in store new ≡ fs ++ bs
    lives_gone none = restated.lives ∙ ap (λ said. fs ++ with_live (option_map (λ (s : RecordState). record live { state = s }) said) bs) none

    pub marked_gone : record_state state ≡ None → IsMarked store key old new
    marked_gone none = record {
      touched = record {
        same = same;
        clean = λ clean. restated.clean ∙ clean;
        others = λ other said other_apart.
            subst (λ ls. count_by (stands_in said other) ls ≤ count_by (stands_in said other) (lives_in store old)) (sym (lives_gone none))
            (subst (λ ls. count_by (stands_in said other) (fs ++ bs) ≤ count_by (stands_in said other) ls) (sym split) (count-fewer (stands_in said other) fs live bs));
        apart = λ at outside away.
            subst (IsApart key at) (sym (lives_gone none))
            (others_of (λ (l : Live). is_of key l ≡ true → l.at + 2 ≢ at) fs live bs (subst (IsApart key at) split away));
        bytes = λ at outside away. stays at away;
      };
      tail = restated.offset;
    }

    -- else it is in that state
    pub lives_turned : (said : RecordState) → record_state state ≡ Some said → lives_in store new ≡ fs ++ record live { state = said } ∷ bs
    lives_turned said is = restated.lives ∙ ap (λ found. fs ++ with_live (option_map (λ (s : RecordState). record live { state = s }) found) bs) is

    pub marked_turned : (said : RecordState) → record_state state ≡ Some said → IsMarked store key old new
    marked_turned said is = record {
      touched = record {
        same = same;
        clean = λ clean. restated.clean ∙ clean;
        others = λ other st other_apart.
            subst (λ ls. count_by (stands_in st other) ls ≤ count_by (stands_in st other) (lives_in store old)) (sym (lives_turned said is))
            (subst (λ ls. count_by (stands_in st other) (fs ++ record live { state = said } ∷ bs) ≤ count_by (stands_in st other) ls) (sym split)
            (let none = other_key other st said other_apart in
            let a : count_by (stands_in st other) (fs ++ record live { state = said } ∷ bs) ≡ 0 + count_by (stands_in st other) (fs ++ bs) =
            count-among (stands_in st other) fs (record live { state = said }) bs ∙ ap (λ b. cond b 1 0 + count_by (stands_in st other) (fs ++ bs)) none in
            let b = count-fewer (stands_in st other) fs live bs in
            omega (arith, a)));
        apart = λ at outside away.
            subst (IsApart key at) (sym (lives_turned said is))
            (replaced_in (λ (l : Live). is_of key l ≡ true → l.at + 2 ≢ at) fs live (record live { state = said }) bs (λ h. h) (subst (IsApart key at) split away));
        bytes = λ at outside away. stays at away;
      };
      tail = restated.offset;
    }
