-- What the steps of a write in place do that turn the state byte of a record.
use Rattle.std.proofs.Common.{◌≡◌, ◌≢◌, ℕ, ◌+◌, ◌≤◌, Bool, true, false, cond, not, ◌&&◌, List, [], ◌∷◌, ◌++◌, is_some, IfSome, Option, Some, None, refl, sym, ap, subst, ◌∙◌, arith, count_by}
use Rattle.std.specs.BTreeMap.{is_at}
use Rattle.std.specs.List.{list_any}
use Rattle.std.specs.Map.{remove_entry}
use Rattle.std.specs.Option.{option_map}
use Rattle.var_types.specs.Chosen.{is_added, is_in_transition, is_of}
use Rattle.var_types.specs.declared.key.Key.{Key}
use Rattle.var_types.specs.declared.record_state.RecordState.{RecordState}
use Rattle.var_types.specs.declared.record_state.RecordState.TheVariants.{Added, InDeletedTransition}
use Rattle.var_types.specs.declared.store.Store.{Store}
use Rattle.var_types.specs.Key.{key_cmp}
use Rattle.var_types.specs.Live.{Live}
use Rattle.var_types.specs.Region.{map_of, region_map}
use Rattle.var_types.specs.RecordState.{is_added_state, record_state}
use Rattle.var_types.specs.Stores.{map_in}
use Rattle.var_region.proofs.WhichCounts.{AddedMayGoIntoTransition-all, LastTakesTheVariable-all, TwinsMayGo-all}
use Rattle.var_region.specs.Written.{state_set}
use Rattle.nv_store.specs.Changes.{lives_in}
use Rattle.nv_store.specs.Places.{first_in, stands_in}
use Rattle.nv_store.specs.Steps.{IsLastDeleted, IsMarked, IsOutdated, IsTwinDropped, twin_of}
use Rattle.nv_store.proofs.Counts.{count-among, count-append, count-cons, count_none, none_counted, some_counted}
use Rattle.nv_store.proofs.Firsts.{first_found, none_found}
use Rattle.nv_store.proofs.Singles.{own_key}
use Rattle.nv_store.proofs.Standing.{lives_gone, lives_turned, marked_gone, marked_turned}

-- both parts of a test
both_of : (a b : Bool) → (a && b) ≡ true → (a ≡ true) × (b ≡ true)
both_of true b h = (refl, h)
both_of false b h = cc

not_of : (b : Bool) → not b ≡ true → b ≡ false
not_of true h = cc
not_of false h = refl

-- of what stands in a state under a key
pub mine_of : (state : RecordState) (key : Key) (live : Live) → stands_in state key live ≡ true → is_of key live ≡ true
mine_of Added key live t = (both_of (is_added_state live.state) (is_of key live) t).1
mine_of InDeletedTransition key live t = (both_of (not (is_added_state live.state)) (is_of key live) t).1

added_of : (key : Key) (live : Live) → stands_in Added key live ≡ true → is_added_state live.state ≡ true
added_of key live t = (both_of (is_added_state live.state) (is_of key live) t).0

outdated_of : (key : Key) (live : Live) → stands_in InDeletedTransition key live ≡ true → is_added_state live.state ≡ false
outdated_of key live t = not_of (is_added_state live.state) ((both_of (not (is_added_state live.state)) (is_of key live) t).0)

-- a key's records are those that are ADDED and those in transition
pub count-both : (key : Key) (ls : List Live) → count_by (is_of key) ls ≡ count_by (is_added key) ls + count_by (is_in_transition key) ls
count-both key [] = refl
count-both key (live ∷ ls) =
    let one = by (is_added_state live.state) (is_of key live) in
    omega (arith, count-cons (is_of key) live ls, count-cons (is_added key) live ls, count-cons (is_in_transition key) live ls, count-both key ls, one)
  where
    by : (added mine : Bool) → cond mine 1 0 ≡ cond (added && mine) 1 0 + cond (not added && mine) 1 0
    by true true = refl
    by true false = refl
    by false true = refl
    by false false = refl

-- where none is ADDED and none in transition, the key has none
pub none_of : (key : Key) (ls : List Live) → count_by (is_added key) ls ≡ 0 → count_by (is_in_transition key) ls ≡ 0 → list_any (is_of key) ls ≡ false
none_of key ls a t = none_counted (is_of key) ls (omega (arith, count-both key ls))

module _ (store : Store) (key : Key) (old : List ℕ) where
  abbrev ls : List Live
  ls = lives_in store old

  -- nothing was turned
  pub marked_none : IsMarked store key old old
  marked_none = record {
    touched = record {
      same = record { len = refl; headers = refl };
      clean = λ clean. clean;
      others = λ other state apart. omega arith;
      apart = λ at outside away. away;
      bytes = λ at outside away. refl;
    };
    tail = refl;
  }

  -- how many there are, by what is found
  pub none_in : (state : RecordState) → first_in state key ls ≡ None → count_by (stands_in state key) ls ≡ 0
  none_in state e = count_none (stands_in state key) ls (none_found (stands_in state key) ls e)

  pub some_in : (state : RecordState) (live : Live) → first_in state key ls ≡ Some live → 1 ≤ count_by (stands_in state key) ls
  some_in state live e =
      let w = first_found (stands_in state key) ls live e in
      let one : count_by (stands_in state key) ls ≡ 1 + count_by (stands_in state key) (w.before ++ w.after) =
      ap (count_by (stands_in state key)) w.split
      ∙ count-among (stands_in state key) w.before live w.after
      ∙ ap (λ b. cond b 1 0 + count_by (stands_in state key) (w.before ++ w.after)) w.passes in
      omega (arith, one)

  module _ (live : Live) where
    -- the counts without one, and with it
    module _ (fs bs : List Live) (split : ls ≡ fs ++ live ∷ bs) where
      counted : (p : Live → Bool) → count_by p ls ≡ cond (p live) 1 0 + count_by p (fs ++ bs)
      counted p = ap (count_by p) split ∙ count-among p fs live bs

      counted_as : (p : Live → Bool) (b : Bool) → p live ≡ b → count_by p ls ≡ cond b 1 0 + count_by p (fs ++ bs)
      counted_as p b e = counted p ∙ ap (λ b. cond b 1 0 + count_by p (fs ++ bs)) e

    -- the twin of an ADDED record was deleted
    pub twin_dropped : twin_of key ls ≡ Some live → count_by (is_in_transition key) ls ≤ 1 → IsTwinDropped store key old (state_set live.at 0x3C old)
    unfolding map_in region_map
    twin_dropped is few = by (first_in Added key ls) refl is
      where
        given : (added : Live) → first_in Added key ls ≡ Some added → first_in InDeletedTransition key ls ≡ Some live → IsTwinDropped store key old (state_set live.at 0x3C old)
        given added a e =
            let w = first_found (stands_in InDeletedTransition key) ls live e in
            let mine = mine_of InDeletedTransition key live w.passes in
            let state = outdated_of key live w.passes in
            let lives = lives_gone store old key w.before w.after live w.split mine 0x3C (λ e. omega arith) refl in
            let rest = w.before ++ w.after in
            let not_added : is_added key live ≡ false = ap (λ b. b && is_of key live) state in
            let added_same : count_by (is_added key) ls ≡ 0 + count_by (is_added key) rest = counted_as w.before w.after w.split (is_added key) false not_added in
            let one : count_by (is_in_transition key) ls ≡ 1 + count_by (is_in_transition key) rest = counted_as w.before w.after w.split (is_in_transition key) true w.passes in
            let some = some_in Added added a in
            let any : list_any (is_added live.key) rest ≡ true =
            ap (λ k. list_any (is_added k) rest) (sym (own_key key live mine)) ∙ some_counted (is_added key) rest (omega (arith, added_same)) in
            record {
              marked = marked_gone store old key w.before w.after live w.split mine 0x3C (λ e. omega arith) refl;
              map = ap map_of lives ∙ TwinsMayGo-all w.before w.after live state any ∙ ap map_of (sym w.split);
              added = ap (count_by (is_added key)) lives ∙ omega (arith, added_same);
              fewer = subst (λ now. count_by (is_in_transition key) now ≤ count_by (is_in_transition key) ls) (sym lives) (omega (arith, one));
              gone = λ has. ap (count_by (is_in_transition key)) lives ∙ omega (arith, one);
              alone = λ none. absurd (omega arith);
            }

        by : (found : Option Live) → first_in Added key ls ≡ found
            → cond (is_some found) (first_in InDeletedTransition key ls) None ≡ Some live → IsTwinDropped store key old (state_set live.at 0x3C old)
        by None a e = cc
        by (Some added) a e = given added a e

    -- an ADDED record without a twin went into transition
    pub outdated : first_in Added key ls ≡ Some live → count_by (is_added key) ls ≤ 1 → count_by (is_in_transition key) ls ≡ 0
        → IsOutdated store key old (state_set live.at 0x3E old)
    unfolding map_in region_map
    outdated e few none =
        let w = first_found (stands_in Added key) ls live e in
        let mine = mine_of Added key live w.passes in
        let state = added_of key live w.passes in
        let now : Live = record live { state = InDeletedTransition } in
        let lives = lives_turned store old key w.before w.after live w.split mine 0x3E (λ e. omega arith) InDeletedTransition refl in
        let rest = w.before ++ w.after in
        let one : count_by (is_added key) ls ≡ 1 + count_by (is_added key) rest = counted_as w.before w.after w.split (is_added key) true w.passes in
        let not_twin : is_in_transition key live ≡ false = ap (λ b. not b && is_of key live) state in
        let twins : count_by (is_in_transition key) ls ≡ 0 + count_by (is_in_transition key) rest = counted_as w.before w.after w.split (is_in_transition key) false not_twin in
        let before_none : list_any (is_added live.key) w.before ≡ false = ap (λ k. list_any (is_added k) w.before) (sym (own_key key live mine)) ∙ w.none in
        let after_none : list_any (is_of live.key) w.after ≡ false =
        ap (λ k. list_any (is_of k) w.after) (sym (own_key key live mine))
        ∙ none_of key w.after (omega (arith, one, count-append (is_added key) w.before w.after)) (omega (arith, twins, count-append (is_in_transition key) w.before w.after)) in
        let added_now : count_by (is_added key) (w.before ++ now ∷ w.after) ≡ 0 + count_by (is_added key) rest = count-among (is_added key) w.before now w.after in
        let twins_now : count_by (is_in_transition key) (w.before ++ now ∷ w.after) ≡ 1 + count_by (is_in_transition key) rest =
        count-among (is_in_transition key) w.before now w.after ∙ ap (λ b. cond b 1 0 + count_by (is_in_transition key) rest) mine in
        record {
          marked = marked_turned store old key w.before w.after live w.split mine 0x3E (λ e. omega arith) InDeletedTransition refl;
          map = ap map_of lives ∙ AddedMayGoIntoTransition-all w.before w.after live state before_none after_none ∙ ap map_of (sym w.split);
          added = ap (count_by (is_added key)) lives ∙ omega (arith, added_now, one);
          few = subst (λ all. count_by (is_in_transition key) all ≤ 1) (sym lives) (omega (arith, twins_now, twins));
        }

    -- a key's only record was deleted
    pub last_deleted : (state : RecordState) (byte : ℕ) → record_state byte ≡ None → byte ≢ 0xFF → first_in state key ls ≡ Some live
        → count_by (is_added key) ls + count_by (is_in_transition key) ls ≡ 1 → IsLastDeleted store key old (state_set live.at byte old)
    unfolding map_in region_map
    last_deleted state byte none apart e last =
        let w = first_found (stands_in state key) ls live e in
        let mine = mine_of state key live w.passes in
        let lives = lives_gone store old key w.before w.after live w.split mine byte apart none in
        let one : count_by (is_of key) ls ≡ 1 + count_by (is_of key) (w.before ++ w.after) = counted_as w.before w.after w.split (is_of key) true mine in
        let gone : list_any (is_of key) (w.before ++ w.after) ≡ false = none_counted (is_of key) (w.before ++ w.after) (omega (arith, one, count-both key ls)) in
        record {
          marked = marked_gone store old key w.before w.after live w.split mine byte apart none;
          map = ap map_of lives
              ∙ LastTakesTheVariable-all w.before w.after live (ap (λ k. list_any (is_of k) (w.before ++ w.after)) (sym (own_key key live mine)) ∙ gone)
              ∙ ap (λ k. remove_entry (is_at (key_cmp k)) (map_of (w.before ++ live ∷ w.after))) (sym (own_key key live mine))
              ∙ ap (λ all. remove_entry (is_at (key_cmp key)) (map_of all)) (sym w.split);
          gone = ap (list_any (is_of key)) lives ∙ gone;
        }

  -- there was no twin
  pub twin_none : twin_of key ls ≡ None → IsTwinDropped store key old old
  twin_none is = record {
    marked = marked_none;
    map = refl;
    added = refl;
    fewer = omega arith;
    gone = λ has. by has (first_in Added key ls) refl is;
    alone = λ none. refl;
  }
    where
      by : 1 ≤ count_by (is_added key) ls → (found : Option Live) → first_in Added key ls ≡ found
          → cond (is_some found) (first_in InDeletedTransition key ls) None ≡ None → count_by (is_in_transition key) ls ≡ 0
      by has None a e = let none = none_in Added a in absurd (omega (arith, none))
      by has (Some added) a e = none_in InDeletedTransition e

  -- there was no ADDED record
  pub outdated_none : first_in Added key ls ≡ None → count_by (is_in_transition key) ls ≤ 1 → IsOutdated store key old old
  outdated_none e few = record { marked = marked_none; map = refl; added = none_in Added e; few = few }

-- where one is found at an offset
pub record IsFoundAt (found : Option Live) (at : ℕ) : Type 0 where
  pub live : Live
  pub is : found ≡ Some live
  pub place : live.at ≡ at

pub found_at : (found : Option Live) (place : Option ℕ) (at : ℕ) → place ≡ option_map (λ (live : Live). live.at) found → place ≡ Some at → IsFoundAt found at
found_at None place at e is = let no : None ≡ Some at = sym e ∙ is in cc
found_at (Some live) place at e is = let same : Some live.at ≡ Some at = sym e ∙ is in record { live = live; is = refl; place = cc }

pub none_at : (found : Option Live) (place : Option ℕ) → place ≡ option_map (λ (live : Live). live.at) found → place ≡ None → found ≡ None
none_at None place e is = refl
none_at (Some live) place e is = let no : Some live.at ≡ None = sym e ∙ is in cc

module _ (store : Store) (key : Key) (old : List ℕ) (place : Option ℕ) where
  pub dropped_at : (at : ℕ) → place ≡ option_map (λ (live : Live). live.at) (twin_of key (lives_in store old)) → place ≡ Some at
      → count_by (is_in_transition key) (lives_in store old) ≤ 1 → IsTwinDropped store key old (state_set at 0x3C old)
  dropped_at at e is few =
      let w = found_at (twin_of key (lives_in store old)) place at e is in
      subst (λ n. IsTwinDropped store key old (state_set n 0x3C old)) w.place (twin_dropped store key old w.live w.is few)

  pub dropped_none : place ≡ option_map (λ (live : Live). live.at) (twin_of key (lives_in store old)) → place ≡ None → IsTwinDropped store key old old
  dropped_none e is = twin_none store key old (none_at (twin_of key (lives_in store old)) place e is)

  pub outdated_at : (at : ℕ) → place ≡ option_map (λ (live : Live). live.at) (first_in Added key (lives_in store old)) → place ≡ Some at
      → count_by (is_added key) (lives_in store old) ≤ 1
      → (1 ≤ count_by (is_added key) (lives_in store old) → count_by (is_in_transition key) (lives_in store old) ≡ 0)
      → IsOutdated store key old (state_set at 0x3E old)
  outdated_at at e is few no_twin =
      let w = found_at (first_in Added key (lives_in store old)) place at e is in
      subst (λ n. IsOutdated store key old (state_set n 0x3E old)) w.place
      (outdated store key old w.live w.is few (no_twin (some_in store key old Added w.live w.is)))

  pub outdated_nowhere : place ≡ option_map (λ (live : Live). live.at) (first_in Added key (lives_in store old)) → place ≡ None
      → count_by (is_in_transition key) (lives_in store old) ≤ 1 → IsOutdated store key old old
  outdated_nowhere e is few = outdated_none store key old (none_at (first_in Added key (lives_in store old)) place e is) few

  pub deleted_at : (state : RecordState) (byte at : ℕ) → record_state byte ≡ None → byte ≢ 0xFF
      → place ≡ option_map (λ (live : Live). live.at) (first_in state key (lives_in store old)) → place ≡ Some at
      → count_by (is_added key) (lives_in store old) + count_by (is_in_transition key) (lives_in store old) ≡ 1
      → IsLastDeleted store key old (state_set at byte old)
  deleted_at state byte at none apart e is last =
      let w = found_at (first_in state key (lives_in store old)) place at e is in
      subst (λ n. IsLastDeleted store key old (state_set n byte old)) w.place (last_deleted store key old w.live state byte none apart w.is last)

-- one of the two is there, where one record is
pub one_there : (store : Store) (key : Key) (old : List ℕ) (a t : Option ℕ)
    → a ≡ option_map (λ (live : Live). live.at) (first_in Added key (lives_in store old)) → a ≡ None
    → t ≡ option_map (λ (live : Live). live.at) (first_in InDeletedTransition key (lives_in store old)) → t ≡ None
    → count_by (is_added key) (lives_in store old) + count_by (is_in_transition key) (lives_in store old) ≡ 1 → ⊥
one_there store key old a t e is f this last =
    let none = none_in store key old Added (none_at (first_in Added key (lives_in store old)) a e is) in
    let neither = none_in store key old InDeletedTransition (none_at (first_in InDeletedTransition key (lives_in store old)) t f this) in
    omega arith

-- a fact of a place that is there
pub at_some : (P : ℕ → Type 0) (place : Option ℕ) (at : ℕ) → IfSome place P → place ≡ Some at → P at
at_some P None at is e = absurd (cc)
at_some P (Some n) at is e = let same : n ≡ at = cc in subst P same is
