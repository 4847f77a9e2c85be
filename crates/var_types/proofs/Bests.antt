-- The policy that counts for a key is its best one, and time stamps are in order.
use Rattle.std.proofs.Common.{◌≡◌, ℕ, zero, suc, ◌<◌, ◌≤◌, Bool, true, false, List, [], ◌∷◌, Option, Some, None, Ordering, Less, Equal, Greater, refl, sym, ap, ◌∙◌, subst, arith, true≢false}
use Rattle.std.proofs.lemmas.Bool.{leb-false, leb-true}
use Rattle.std.proofs.lemmas.Cmp.{nat_list_cmp_total, tied_itself}
use Rattle.std.proofs.lemmas.Map.Lookups.{exact_bytes}
use Rattle.std.specs.Cmp.Lexicographic.{slice_cmp}
use Rattle.std.specs.Ordering.{is_lt, nat_cmp, ordering_reverse}
use Rattle.std.specs.Prelude.{slice_get, nat_le, if◌then◌else◌}
use Rattle.var_types.specs.Policies.{Question, behind, best, better, covers, denied, denied_by, wildcards}
use Rattle.var_types.specs.PolicyLaws.{IsBest, IsBestOf}
use Rattle.var_types.specs.Stamps.{is_later, time_of}
use Rattle.var_types.specs.State.{State}
use Rattle.var_types.specs.declared.key.Key.{Key}
use Rattle.var_types.specs.declared.policy.Policy.{Policy}
use Rattle.var_types.specs.declared.stamp.Stamp.{Stamp}

module _ (key : Key) (policy : Policy) (policies : List Policy) where
  -- one policy more in front that doesn't cover the key, and none behind it does
  none_more : covers policy key ≡ false → IsBestOf policies key None → IsBestOf (policy ∷ policies) key None
  none_more misses none zero rival there = let same : policy ≡ rival = cc in sym (ap (λ p. covers p key) same) ∙ misses
  none_more misses none (suc i) rival there = none i rival there

  -- one more in front that doesn't cover the key leaves the best
  fewest_behind : (place : ℕ) (winner : Policy) → IsBest policies key place winner
      → (covers policy key ≡ true → wildcards winner ≤ wildcards policy)
      → (i : ℕ) (rival : Policy) → slice_get (policy ∷ policies) i ≡ Some rival → covers rival key ≡ true → wildcards winner ≤ wildcards rival
  fewest_behind place winner is front zero rival there covered =
      let same : policy ≡ rival = cc in
      let Fewer : Policy → Type 0 = λ p. covers p key ≡ true → wildcards winner ≤ wildcards p in
      subst Fewer same front covered
  fewest_behind place winner is front (suc i) rival there covered = is.fewest i rival there covered

  first_behind : (place : ℕ) (winner : Policy) → IsBest policies key place winner
      → (covers policy key ≡ true → wildcards winner < wildcards policy)
      → (i : ℕ) (rival : Policy) → i < suc place → slice_get (policy ∷ policies) i ≡ Some rival → covers rival key ≡ true
      → wildcards winner < wildcards rival
  first_behind place winner is front zero rival below there covered =
      let same : policy ≡ rival = cc in
      let Fewer : Policy → Type 0 = λ p. covers p key ≡ true → wildcards winner < wildcards p in
      subst Fewer same front covered
  first_behind place winner is front (suc i) rival below there covered = is.first i rival (omega arith) there covered

  -- the best behind one that doesn't cover the key, or that has more wildcards
  best_behind : (place : ℕ) (winner : Policy) → IsBest policies key place winner
      → (covers policy key ≡ true → wildcards winner < wildcards policy) → IsBest (policy ∷ policies) key (suc place) winner
  best_behind place winner is front = record {
    there = is.there;
    covered = is.covered;
    fewest = fewest_behind place winner is (λ covered. let fewer = front covered in omega arith);
    first = first_behind place winner is front;
  }

  -- one in front that covers the key and has no more wildcards than any behind it that does
  fewest_front : ((i : ℕ) (rival : Policy) → slice_get policies i ≡ Some rival → covers rival key ≡ true → wildcards policy ≤ wildcards rival)
      → (i : ℕ) (rival : Policy) → slice_get (policy ∷ policies) i ≡ Some rival → covers rival key ≡ true → wildcards policy ≤ wildcards rival
  fewest_front later zero rival there covered =
      let same : policy ≡ rival = cc in
      let Fewer : Policy → Type 0 = λ p. wildcards policy ≤ wildcards p in
      subst Fewer same (omega arith)
  fewest_front later (suc i) rival there covered = later i rival there covered

  best_front : covers policy key ≡ true
      → ((i : ℕ) (rival : Policy) → slice_get policies i ≡ Some rival → covers rival key ≡ true → wildcards policy ≤ wildcards rival)
      → IsBest (policy ∷ policies) key 0 policy
  best_front covered later = record {
    there = refl;
    covered = covered;
    fewest = fewest_front later;
    first = λ i rival below there covered. absurd (omega arith);
  }

  -- one more in front that covers the key, by whether it has no more wildcards
  best_of_two : covers policy key ≡ true → (place : ℕ) (rival : Policy) → IsBest policies key place rival → (fewer : Bool)
      → nat_le (wildcards policy) (wildcards rival) ≡ fewer
      → IsBestOf (policy ∷ policies) key (if fewer then Some (0, policy) else Some (suc place, rival))
  best_of_two covered place rival is true fewer =
      let fewer : wildcards policy ≤ wildcards rival = leb-true _ _ fewer in
      best_front covered (λ i other there covers_key. let later = is.fewest i other there covers_key in omega arith)
  best_of_two covered place rival is false fewer = best_behind place rival is (λ covers_key. leb-false _ _ fewer)

  -- one more in front, by whether it covers the key and what is best behind it
  best_more : (here : Bool) → covers policy key ≡ here → (found : Option (ℕ × Policy)) → IsBestOf policies key found
      → IsBestOf (policy ∷ policies) key (if here then better policy found else behind found)
  best_more false misses None none = none_more misses none
  best_more false misses (Some found) is = best_behind found.0 found.1 is (λ covered. absurd (true≢false (sym covered ∙ misses)))
  best_more true covered None none =
      best_front covered (λ i rival there covers_key. absurd (true≢false (sym covers_key ∙ none i rival there)))
  best_more true covered (Some found) is =
      best_of_two covered found.0 found.1 is (nat_le (wildcards policy) (wildcards found.1)) refl

-- the policy that counts for a key is its best one
pub best_is : (policies : List Policy) (key : Key) → IsBestOf policies key (best policies key)
best_is [] key = λ i rival there. cc
best_is (policy ∷ policies) key = best_more key policy policies (covers policy key) refl (best policies key) (best_is policies key)

-- with policy off no set is denied
pub off_denies_nothing : (state : State) (question : Question) → state.policy_on ≡ false → denied state question ≡ None
unfolding denied
off_denies_nothing state question off =
    ap (λ on. if on then denied_by state question (best state.policies question.key) else None) off

-- the order of times
abbrev times : List ℕ → List ℕ → Ordering
times = slice_cmp nat_cmp

-- what a test of an order says
lt_is : (order : Ordering) → is_lt order ≡ true → order ≡ Less
lt_is Less lt = refl
lt_is Equal lt = cc
lt_is Greater lt = cc

-- no stamp is later than itself
pub not_itself : (stamp : Stamp) → is_later stamp stamp ≡ false
unfolding is_later
not_itself stamp = ap is_lt (tied_itself nat_list_cmp_total (time_of stamp))

-- later than a later one
pub later_on : (a b c : Stamp) → is_later a b ≡ true → is_later b c ≡ true → is_later a c ≡ true
unfolding is_later
later_on a b c first next =
    ap is_lt
    (nat_list_cmp_total.trans (time_of c) (time_of b) (time_of a) (lt_is (times (time_of c) (time_of b)) next)
    (lt_is (times (time_of b) (time_of a)) first))

-- times of which neither is above the other are one
same_times : (s t : List ℕ) (order : Ordering) → times s t ≡ order → is_lt (times s t) ≡ false → is_lt (times t s) ≡ false → s ≡ t
same_times s t Less is below above = absurd (true≢false (sym (ap is_lt is) ∙ below))
same_times s t Equal is below above = exact_bytes s t is
same_times s t Greater is below above =
    absurd (true≢false (sym (ap is_lt (nat_list_cmp_total.antisymm t s ∙ ap ordering_reverse is)) ∙ above))

-- of two stamps with different times one is later
pub one_later : (a b : Stamp) → is_later a b ≡ false → is_later b a ≡ false → time_of a ≡ time_of b
unfolding is_later
one_later a b first next = same_times (time_of a) (time_of b) (times (time_of a) (time_of b)) refl next first
