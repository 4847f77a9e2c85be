-- When no key has two records in one state.
use Rattle.std.proofs.Common.{◌≡◌, ◌+◌, ◌≤◌, Bool, true, false, cond, not, ◌&&◌, ◌||◌, List, [], ◌∷◌, refl, sym, ap, ◌∙◌, arith, count_by}
use Rattle.std.proofs.lemmas.Cmp.{eq_by_cmp_equiv}
use Rattle.std.specs.Cmp.{Equal-is}
use Rattle.std.specs.List.{list_any}
use Rattle.var_types.proofs.Keys.{key_cmp_total, same_key}
use Rattle.var_types.specs.Chosen.{is_added, is_in_transition, is_of}
use Rattle.var_types.specs.declared.key.Key.{Key}
use Rattle.var_types.specs.declared.record_state.RecordState.{RecordState}
use Rattle.var_types.specs.declared.record_state.RecordState.TheVariants.{Added, InDeletedTransition}
use Rattle.var_types.specs.Key.{key_cmp}
use Rattle.var_types.specs.Live.{Live}
use Rattle.var_types.specs.RecordState.{is_added_state}
use Rattle.region_compact.specs.Laws.{EachKeyOnce}
use Rattle.nv_store.specs.Places.{stands_in}
use Rattle.nv_store.specs.Tidy.{IsSingle, are_single}
use Rattle.nv_store.proofs.Counts.{count-cons, count_none, count_some}

-- a record that is a key's has that key
pub own_key : (key : Key) (live : Live) → is_of key live ≡ true → key ≡ live.key
own_key key live t = same_key key live.key ((Equal-is (key_cmp key live.key)).0 t)

-- a record is its own key's
pub is_own : (live : Live) → is_of live.key live ≡ true
is_own live = (eq_by_cmp_equiv key_cmp_total).refl live.key

-- a record stands in its own state under its own key
pub stands_own : (live : Live) → stands_in live.state live.key live ≡ true
stands_own live = by live.state refl
  where
    by : (state : RecordState) → live.state ≡ state → stands_in state live.key live ≡ true
    by Added e = ap (λ s. is_added_state s && is_of live.key live) e ∙ is_own live
    by InDeletedTransition e = ap (λ s. not (is_added_state s) && is_of live.key live) e ∙ is_own live

-- a record that stands in a state under a key has both
both_of : (a b : Bool) → (a && b) ≡ true → (a ≡ true) × (b ≡ true)
both_of true b h = (refl, h)
both_of false b h = cc

pub stands_key : (state : RecordState) (key : Key) (live : Live) → stands_in state key live ≡ true → key ≡ live.key
stands_key Added key live t = own_key key live ((both_of (is_added_state live.state) (is_of key live) t).1)
stands_key InDeletedTransition key live t = own_key key live ((both_of (not (is_added_state live.state)) (is_of key live) t).1)

pub stands_state : (state : RecordState) (key : Key) (live : Live) → stands_in state key live ≡ true → live.state ≡ state
stands_state state key live t = by state live.state refl t
  where
    by : (state said : RecordState) → live.state ≡ said → stands_in state key live ≡ true → live.state ≡ state
    by Added Added e t = e
    by Added InDeletedTransition e t = let no : false ≡ true = sym (ap (λ s. is_added_state s && is_of key live) e) ∙ t in cc
    by InDeletedTransition Added e t = let no : false ≡ true = sym (ap (λ s. not (is_added_state s) && is_of key live) e) ∙ t in cc
    by InDeletedTransition InDeletedTransition e t = e

-- at most one record stands in a state under a key, where no record has one behind it
single_by : (state : RecordState) (key : Key) (ls : List Live) → are_single ls ≡ true → count_by (stands_in state key) ls ≤ 1
single_by state key [] h = omega arith
single_by state key (live ∷ ls) h =
    by (stands_in state key live) refl (list_any (stands_in live.state live.key) ls) refl h (single_by state key ls)
  where
    by : (here : Bool) → stands_in state key live ≡ here → (more : Bool) → list_any (stands_in live.state live.key) ls ≡ more
        → (not more && are_single ls) ≡ true → (are_single ls ≡ true → count_by (stands_in state key) ls ≤ 1)
        → count_by (stands_in state key) (live ∷ ls) ≤ 1
    by here e true m h rest = cc
    by false e false m h rest =
        let same : count_by (stands_in state key) (live ∷ ls) ≡ 0 + count_by (stands_in state key) ls =
        count-cons (stands_in state key) live ls ∙ ap (λ b. cond b 1 0 + count_by (stands_in state key) ls) e in
        omega (arith, same, rest h)
    by true e false m h rest =
        let one : count_by (stands_in state key) (live ∷ ls) ≡ 1 + count_by (stands_in state key) ls =
        count-cons (stands_in state key) live ls ∙ ap (λ b. cond b 1 0 + count_by (stands_in state key) ls) e in
        let none : list_any (stands_in state key) ls ≡ false =
        (λ i. list_any (stands_in (sym (stands_state state key live e) i) (stands_key state key live e i)) ls) ∙ m in
        omega (arith, one, count_none (stands_in state key) ls none)

pub single_true : (ls : List Live) → are_single ls ≡ true → IsSingle ls
single_true ls h = record { added = λ key. single_by Added key ls h; in_transition = λ key. single_by InDeletedTransition key ls h }

-- an upper bound of both counts by the state
pub single_at : (ls : List Live) → IsSingle ls → (state : RecordState) (key : Key) → count_by (stands_in state key) ls ≤ 1
single_at ls is Added key = is.added key
single_at ls is InDeletedTransition key = is.in_transition key

-- one that has one behind it is counted twice
pub single_false : (ls : List Live) → are_single ls ≡ false → IsSingle ls → ⊥
single_false [] h is = cc
single_false (live ∷ ls) h is =
    by (list_any (stands_in live.state live.key) ls) refl h (single_false ls)
  where
    fewer : (state : RecordState) (key : Key) → count_by (stands_in state key) ls ≤ 1
    fewer state key =
        let all = single_at (live ∷ ls) is state key in
        omega (arith, count-cons (stands_in state key) live ls)

    by : (more : Bool) → list_any (stands_in live.state live.key) ls ≡ more → (not more && are_single ls) ≡ false
        → (are_single ls ≡ false → IsSingle ls → ⊥) → ⊥
    by false m h rest = rest h (record { added = fewer Added; in_transition = fewer InDeletedTransition })
    by true m h rest =
        let one : count_by (stands_in live.state live.key) (live ∷ ls) ≡ 1 + count_by (stands_in live.state live.key) ls =
        count-cons (stands_in live.state live.key) live ls ∙ ap (λ b. cond b 1 0 + count_by (stands_in live.state live.key) ls) (stands_own live) in
        let all = single_at (live ∷ ls) is live.state live.key in
        let some = count_some (stands_in live.state live.key) ls m in
        omega (arith, one)

-- where each key has one record, ADDED, none is in transition
pub once_none : (key : Key) (ls : List Live) → EachKeyOnce ls → count_by (is_in_transition key) ls ≡ 0
once_none key [] once = refl
once_none key (live ∷ ls) once =
    count-cons (is_in_transition key) live ls
    ∙ ap (λ b. cond (not b && is_of key live) 1 0 + count_by (is_in_transition key) ls) once.0
    ∙ omega (arith, once_none key ls once.1.1)

-- and as many of a key are ADDED as are of the key at all: at most one
pub once_added : (key : Key) (ls : List Live) → EachKeyOnce ls → count_by (is_added key) ls ≡ cond (list_any (is_of key) ls) 1 0
once_added key [] once = refl
once_added key (live ∷ ls) once =
    count-cons (is_added key) live ls
    ∙ ap (λ b. cond (b && is_of key live) 1 0 + count_by (is_added key) ls) once.0
    ∙ by (is_of key live) refl (once_added key ls once.1.1)
  where
    by : (here : Bool) → is_of key live ≡ here → count_by (is_added key) ls ≡ cond (list_any (is_of key) ls) 1 0
        → cond here 1 0 + count_by (is_added key) ls ≡ cond (here || list_any (is_of key) ls) 1 0
    by false e rest = omega (arith, rest)
    by true e rest =
        let none : list_any (is_of key) ls ≡ false = ap (λ k. list_any (is_of k) ls) (own_key key live e) ∙ once.1.0 in
        let zero_more : count_by (is_added key) ls ≡ 0 = rest ∙ ap (λ b. cond b 1 0) none in
        omega (arith, zero_more)

-- no key has two then
pub once_single : (ls : List Live) → EachKeyOnce ls → IsSingle ls
once_single ls once = record {
  added = λ key. at_most key (list_any (is_of key) ls) refl;
  in_transition = λ key. omega (arith, once_none key ls once);
}
  where
    at_most : (key : Key) (b : Bool) → list_any (is_of key) ls ≡ b → count_by (is_added key) ls ≤ 1
    at_most key b e = by b (once_added key ls once ∙ ap (λ b. cond b 1 0) e)
      where
        by : (b : Bool) → count_by (is_added key) ls ≡ cond b 1 0 → count_by (is_added key) ls ≤ 1
        by true h = omega (arith, h)
        by false h = omega (arith, h)
