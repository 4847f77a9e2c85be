-- How the totals go with the variables.
use Rattle.std.proofs.Common.{◌≡◌, ℕ, cond, ◌+◌, ◌-◌, ◌≤◌, ◌<◌, ◌^◌, List, length, refl, subst, sym, ap, ◌∙◌, arith}
use Rattle.std.proofs.lemmas.Cmp.{tied_itself}
use Rattle.std.specs.BTreeMap.{is_at, insert_entry}
use Rattle.std.specs.List.Sorted.{IsStrictlySortedBy}
use Rattle.std.specs.Map.{keys_of, lookup, remove_entry}
use Rattle.std.specs.Prelude.{Option, Some, None, IfSome, true}
use Rattle.std.specs.declared.cmp.Ordering.{Ordering}
use Rattle.std.specs.declared.cmp.Ordering.TheVariants.{Less, Equal, Greater}
use Rattle.std.specs.Ordering.{is_eq}
use Rattle.var_types.proofs.Sums.{weight_at, sum_by-remove_entry, sum_by-insert_entry}
use Rattle.set_rules.specs.RoomTotals.{HasRoom, IsTotalOf, total_of, totals_and, totals_with, totals_without}
use Rattle.set_rules.specs.declared.room_totals.RoomTotals.{RoomTotals}
use Rattle.var_types.proofs.Entries.{lookup-insert_entry}
use Rattle.var_types.proofs.Keys.{key_cmp_total, same_key}
use Rattle.var_types.specs.Attributes.{store_of}
use Rattle.var_types.specs.Key.{key_cmp}
use Rattle.var_types.specs.Room.{in_store, room_in, room_limit, room_of, room_used}
use Rattle.var_types.specs.declared.key.Key.{Key}
use Rattle.var_types.specs.declared.store.Store.{Store}
use Rattle.var_types.specs.declared.store.Store.TheVariants.{NonVolatile, Volatile}
use Rattle.var_types.specs.declared.variable.Variable.{Variable}

-- what the test for equality says
equal_from_test : (o : Ordering) → is_eq o ≡ true → o ≡ Equal
equal_from_test Less h = cc
equal_from_test Equal h = refl
equal_from_test Greater h = cc

-- a key that is found is the one looked for
found_key : (key q : Key) → is_at (key_cmp key) q ≡ true → q ≡ key
found_key key q h = sym (same_key key q (equal_from_test (key_cmp key q) h))

-- a total that falls is that of one store
less_total : (totals : RoomTotals) (of store : Store) (n : ℕ)
    → total_of (totals_with totals of (total_of totals of - n)) store ≡ total_of totals store - in_store store of n
less_total totals NonVolatile NonVolatile n = refl
less_total totals NonVolatile Volatile n = omega arith
less_total totals Volatile NonVolatile n = omega arith
less_total totals Volatile Volatile n = refl

-- a total that rises is that of one store
more_total : (totals : RoomTotals) (of store : Store) (n : ℕ)
    → total_of (totals_with totals of (total_of totals of + n)) store ≡ total_of totals store + in_store store of n
more_total totals NonVolatile NonVolatile n = refl
more_total totals NonVolatile Volatile n = omega arith
more_total totals Volatile NonVolatile n = omega arith
more_total totals Volatile Volatile n = refl

-- a total that rises to its limit at most keeps all within their limits
more_within : (totals : RoomTotals) (of store : Store) (n : ℕ) → total_of totals store ≤ room_limit store → total_of totals of + n ≤ room_limit of
    → total_of (totals_with totals of (total_of totals of + n)) store ≤ room_limit store
more_within totals NonVolatile NonVolatile n within fits = fits
more_within totals NonVolatile Volatile n within fits = within
more_within totals Volatile NonVolatile n within fits = within
more_within totals Volatile Volatile n within fits = fits

-- a value for a store is one for it
in_store-same : (store : Store) (n : ℕ) → in_store store store n ≡ n
in_store-same NonVolatile n = refl
in_store-same Volatile n = refl

-- the totals without what is found at a key, store by store
without_total : (totals : RoomTotals) (key : Key) (found : Option Variable) (store : Store)
    → total_of (totals_without totals key found) store ≡ total_of totals store - weight_at (room_in store) key found
unfolding room_in
without_total totals key None store = omega arith
without_total totals key (Some v) store = less_total totals (store_of v.attributes) store (room_of key v)

-- the totals without what is found at a key are those of the other variables
pub IsTotalOf-without : (totals : RoomTotals) (key : Key) (es : List (Key × Variable)) → IsTotalOf totals es
    → IsTotalOf (totals_without totals key (lookup (is_at (key_cmp key)) es)) (remove_entry (is_at (key_cmp key)) es)
IsTotalOf-without totals key es c = record {
  summed = λ store. omega (arith, without_total totals key (lookup (is_at (key_cmp key)) es) store, c.summed store, sum_by-remove_entry (room_in store) (is_at (key_cmp key)) key (found_key key) es);
  within = λ store. omega (arith, without_total totals key (lookup (is_at (key_cmp key)) es) store, c.within store);
}

-- the totals with a variable that is put are those of all variables then, where its store has room for it
pub IsTotalOf-put : (rest : RoomTotals) (key : Key) (v : Variable) (es : List (Key × Variable)) → IsStrictlySortedBy key_cmp (keys_of es)
    → IsTotalOf rest (remove_entry (is_at (key_cmp key)) es)
    → total_of rest (store_of v.attributes) + room_of key v ≤ room_limit (store_of v.attributes)
    → IsTotalOf (totals_with rest (store_of v.attributes) (total_of rest (store_of v.attributes) + room_of key v)) (insert_entry key_cmp es key v)
unfolding room_in
IsTotalOf-put rest key v es sorted c fits = record {
  summed = λ store. omega (arith, more_total rest (store_of v.attributes) store (room_of key v), c.summed store, sum_by-insert_entry (room_in store) key_cmp_total same_key key v es sorted);
  within = λ store. more_within rest (store_of v.attributes) store (room_of key v) (c.within store) fits;
}

-- what is found takes no more room than its store's total
pub found_within : (totals : RoomTotals) (key : Key) (es : List (Key × Variable)) (v : Variable) → IsTotalOf totals es
    → lookup (is_at (key_cmp key)) es ≡ Some v → room_of key v ≤ total_of totals (store_of v.attributes)
unfolding room_in
found_within totals key es v c found =
    let store = store_of v.attributes in
    let P : Option Variable → Type 0 = λ o. room_used store (remove_entry (is_at (key_cmp key)) es) + weight_at (room_in store) key o ≡ room_used store es in
    let sums = subst P found (sum_by-remove_entry (room_in store) (is_at (key_cmp key)) key (found_key key) es) in
    omega (arith, sums, c.summed store, in_store-same store (room_of key v))

-- data is shorter than its record's room
pub length-le-room_of : (key : Key) (v : Variable) → length v.bytes ≤ room_of key v
length-le-room_of key v = omega arith

-- no store is larger than 32 bits can count
limit_small : (store : Store) → room_limit store < 2 ^ 32
limit_small NonVolatile = omega arith
limit_small Volatile = omega arith

-- the data of what is found is short
pub found_short : (totals : RoomTotals) (key : Key) (es : List (Key × Variable)) (v : Variable) → IsTotalOf totals es
    → lookup (is_at (key_cmp key)) es ≡ Some v → length v.bytes < 2 ^ 32
found_short totals key es v c found =
    omega (arith, found_within totals key es v c found, length-le-room_of key v, c.within (store_of v.attributes), limit_small (store_of v.attributes))

-- the data of what may be found is short
short_found : (totals : RoomTotals) (key : Key) (es : List (Key × Variable)) → IsTotalOf totals es → (found : Option Variable)
    → lookup (is_at (key_cmp key)) es ≡ found → IfSome found (λ v. length v.bytes < 2 ^ 32)
short_found totals key es c None e = tt
short_found totals key es c (Some v) e = found_short totals key es v c e

-- the data of each variable is short
pub all_short : (totals : RoomTotals) (es : List (Key × Variable)) → IsTotalOf totals es → (key : Key)
    → IfSome (lookup (is_at (key_cmp key)) es) (λ v. length v.bytes < 2 ^ 32)
all_short totals es c key = short_found totals key es c (lookup (is_at (key_cmp key)) es) refl

-- what may be found takes no more room than its store's total
within_found : (totals : RoomTotals) (key : Key) (es : List (Key × Variable)) → IsTotalOf totals es → (found : Option Variable)
    → lookup (is_at (key_cmp key)) es ≡ found → IfSome found (λ v. room_of key v ≤ total_of totals (store_of v.attributes))
within_found totals key es c None e = tt
within_found totals key es c (Some v) e = found_within totals key es v c e

-- each variable takes no more room than its store's total
pub all_within : (totals : RoomTotals) (es : List (Key × Variable)) → IsTotalOf totals es → (key : Key)
    → IfSome (lookup (is_at (key_cmp key)) es) (λ v. room_of key v ≤ total_of totals (store_of v.attributes))
all_within totals es c key = within_found totals key es c (lookup (is_at (key_cmp key)) es) refl

-- the totals without what was found are those of the other variables
pub IsTotalOf-rest : (totals rest : RoomTotals) (key : Key) (found : Option Variable) (es variables : List (Key × Variable)) → IsTotalOf totals es
    → rest ≡ totals_without totals key found → found ≡ lookup (is_at (key_cmp key)) es → es ≡ variables
    → IsTotalOf rest (remove_entry (is_at (key_cmp key)) variables)
IsTotalOf-rest totals rest key found es variables c without is seen =
    let r = without ∙ ap (totals_without totals key) is in
    subst (λ (vs : List (Key × Variable)). IsTotalOf rest (remove_entry (is_at (key_cmp key)) vs)) seen
    (subst (λ (u : RoomTotals). IsTotalOf u (remove_entry (is_at (key_cmp key)) es)) (sym r) (IsTotalOf-without totals key es c))

-- what is found at a key after a variable was put there
pub found_put : (es : List (Key × Variable)) (key : Key) (v : Variable)
    → lookup (is_at (key_cmp key)) (insert_entry key_cmp es key v) ≡ Some v
found_put es key v =
    lookup-insert_entry key_cmp_total key v es key
    ∙ ap (λ b. cond b (Some v) (lookup (is_at (key_cmp key)) es)) (ap is_eq (tied_itself key_cmp_total key))

-- no store has more room than the volatile one
limit_most : (store : Store) → room_limit store ≤ 65508
limit_most NonVolatile = omega arith
limit_most Volatile = omega arith

module _ (rest : RoomTotals) (key : Key) (v : Variable) (es : List (Key × Variable)) (c : IsTotalOf rest (remove_entry (is_at (key_cmp key)) es)) (room : HasRoom es key v) where
  -- a variable that has room fits its store beside the total of the others
  fits_total : total_of rest (store_of v.attributes) + room_of key v ≤ room_limit (store_of v.attributes)
  fits_total = omega (arith, c.summed (store_of v.attributes), room)

  -- so the total with what is found once it was put can be counted
  pub counts_found : (found : Option Variable) → found ≡ Some v
      → IfSome found (λ w. total_of rest (store_of w.attributes) + room_of key w ≤ 65508)
  counts_found found is =
      subst (λ (o : Option Variable). IfSome o (λ w. total_of rest (store_of w.attributes) + room_of key w ≤ 65508)) (sym is)
      (omega (arith, fits_total, limit_most (store_of v.attributes)))

  -- the totals with what is found once it was put are those of all variables then
  pub IsTotalOf-found : (totals : RoomTotals) (found : Option Variable) (new : List (Key × Variable)) → IsStrictlySortedBy key_cmp (keys_of es)
      → new ≡ insert_entry key_cmp es key v → found ≡ Some v → totals ≡ totals_and rest key found → IsTotalOf totals new
  IsTotalOf-found totals found new sorted put is counted =
      let after : totals ≡ totals_and rest key (Some v) = counted ∙ ap (totals_and rest key) is in
      subst (λ (u : RoomTotals). IsTotalOf u new) (sym after)
      (subst (λ (vs : List (Key × Variable)). IsTotalOf (totals_and rest key (Some v)) vs) (sym put) (IsTotalOf-put rest key v es sorted c fits_total))
