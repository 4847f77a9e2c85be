-- The policy that is read of an entry is one that entries can spell.
use Rattle.std.proofs.Common.{◌≡◌, ℕ, zero, suc, ◌+◌, ◌*◌, ◌^◌, ◌<◌, ◌≤◌, Bool, true, false, cond, List, [], ◌∷◌, length, take, drop, All, Option, Some, None, Result, Ok, Err, refl, sym, ap, subst, ◌∙◌, arith}
use Rattle.std.proofs.lemmas.Bool.{and_parts, eqb-true, leb-true, ltb-false, ltb-true, le-ltb, ne_eqb, or_parts}
use Rattle.std.proofs.lemmas.List.{length-drop, length-take-le}
use Rattle.std.proofs.lemmas.List.Elements.{All-drop, All-from_recursion, All-take, recursion_from_All}
use Rattle.std.specs.List.{AllByRecursion, prefix_len}
use Rattle.std.specs.Prelude.{◌==◌, ◌&&◌, ◌||◌, IfSome, IfOk, count_by, if◌then◌else◌, nat_le, nat_lt, not, position, slice_index, unwrap_or}
use Rattle.byteorder.specs.Endian.{little_number}
use Rattle.var_types.specs.declared.entry_fault.EntryFault.{EntryFault}
use Rattle.var_types.specs.declared.entry_fault.EntryFault.TheVariants.{LockType, MinAboveMax, NameForm, Offset, Size, Version, Wildcards}
use Rattle.var_types.specs.declared.guid.Guid.{Guid}
use Rattle.var_types.specs.declared.policy.Lock.{Lock}
use Rattle.var_types.specs.declared.policy.Policy.{Policy}
use Rattle.var_types.specs.Descriptor.{field_of}
use Rattle.var_types.specs.Guid.{IsGuid}
use Rattle.var_types.specs.Live.{units_in}
use Rattle.var_types.specs.declared.name.NameFault.TheVariants.{Empty, TooLong}
use Rattle.var_types.specs.Name.{name_check, nul_check}
use Rattle.var_types.specs.Policies.{is_wildcard}
use Rattle.var_types.specs.PolicyEntry.{CanSpell, CanSpellLock, IsNameOfUnits, ends_with_name, entry_name, entry_of, entry_read, entry_tests, entry_wildcards, fault_if, first_fault, guid_at, has_ill_name, is_missized, is_name, is_name_length, lock_of, lock_type_of, locks_on_state, name_length, name_offset, name_wildcards, policy_of, state_units, units_at}
use Rattle.var_types.specs.Values.{AreBytes, AreUnits}

-- a test that doesn't hold, and the tests behind it
passed : (b : Bool) (fault : EntryFault) (tests : List (Option EntryFault)) → first_fault (fault_if b fault ∷ tests) ≡ None
    → (b ≡ false) × (first_fault tests ≡ None)
passed false fault tests h = (refl, h)
passed true fault tests h = cc

-- what isn't false is true
untrue : (b : Bool) → not b ≡ false → b ≡ true
untrue true h = refl
untrue false h = cc

-- the other of two that don't hold together
and_other : (a b : Bool) → a ≡ true → (a && b) ≡ false → b ≡ false
and_other true b is h = h
and_other false b is h = cc

-- neither of two
neither : (a b : Bool) → (a || b) ≡ false → (a ≡ false) × (b ≡ false)
neither false b h = (refl, h)
neither true b h = cc

-- ---- bytes

-- a number of four bytes
number_small : (xs : List ℕ) → 4 ≤ length xs → AreBytes xs → little_number 4 xs < 2 ^ 32
number_small xs long all =
    let a : slice_index xs 0 < 256 = all 0 0 (omega (arith, long)) in
    let b : slice_index xs 1 < 256 = all 1 0 (omega (arith, long)) in
    let c : slice_index xs 2 < 256 = all 2 0 (omega (arith, long)) in
    let d : slice_index xs 3 < 256 = all 3 0 (omega (arith, long)) in
    omega (arith, a, b, c, d)

units_small : (xs : List ℕ) → AllByRecursion (λ b. b < 256) xs → AllByRecursion (λ u. u < 65536) (units_in xs)
units_small [] all = tt
units_small (a ∷ []) all = tt
units_small (a ∷ b ∷ rest) all =
    let x : a < 256 = all.0 in
    let y : b < 256 = all.1.0 in
    (omega (arith, x, y), units_small rest all.1.1)

-- ---- names

-- whether a unit is no NUL
abbrev is_other : ℕ → Bool
is_other unit = not (unit == 0)

-- where the first NUL stands
nul_at : (xs : List ℕ) (n : ℕ) → position (λ unit. unit == 0) xs ≡ Some n → (prefix_len is_other xs ≡ n) × (n < length xs)
nul_at xs n h = by (nat_lt (prefix_len is_other xs) (length xs)) refl h
  where
    by : (b : Bool) → nat_lt (prefix_len is_other xs) (length xs) ≡ b → cond b (Some (prefix_len is_other xs)) None ≡ Some n
        → (prefix_len is_other xs ≡ n) × (n < length xs)
    by true is h =
        let same : prefix_len is_other xs ≡ n = cc in
        let within = ltb-true (prefix_len is_other xs) (length xs) is in
        (same, omega (arith, same, within))
    by false is h = cc

-- no NUL stands before it
none_before : (xs : List ℕ) (n : ℕ) → prefix_len is_other xs ≡ n → prefix_len is_other (take n xs) ≡ n
none_before [] n h = by n h
  where
    by : (n : ℕ) → 0 ≡ n → prefix_len is_other (take n []) ≡ n
    by zero h = refl
    by (suc n) h = absurd (omega (arith, h))
none_before (x ∷ xs) zero h = refl
none_before (x ∷ xs) (suc n) h = by (is_other x) refl (none_before xs n)
  where
    by : (b : Bool) → is_other x ≡ b → (prefix_len is_other xs ≡ n → prefix_len is_other (take n xs) ≡ n) → prefix_len is_other (take (suc n) (x ∷ xs)) ≡ suc n
    by true is more =
        let goes : prefix_len is_other (x ∷ xs) ≡ 1 + prefix_len is_other xs = ap (λ (b : Bool). cond b (1 + prefix_len is_other xs) 0) is in
        let rest = more (omega (arith, goes, h)) in
        ap (λ (b : Bool). cond b (1 + prefix_len is_other (take n xs)) 0) is ∙ (let e : 1 + prefix_len is_other (take n xs) ≡ suc n = omega (arith, rest) in e)
    by false is more =
        let stops : prefix_len is_other (x ∷ xs) ≡ 0 = ap (λ (b : Bool). cond b (1 + prefix_len is_other xs) 0) is in
        absurd (omega (arith, stops, h))

-- units before the first NUL that are 1 to 512 are a name
front_named : (bytes : List ℕ) (n : ℕ) → AreBytes bytes → position (λ unit. unit == 0) (units_in bytes) ≡ Some n → is_name_length n ≡ true
    → IsNameOfUnits (take n (units_in bytes))
front_named bytes n all found counted =
    let at = nul_at (units_in bytes) n found in
    let xs : List ℕ = take n (units_in bytes) in
    let size : length xs ≡ n = length-take-le n (units_in bytes) (let within = at.1 in omega (arith, within)) in
    let parts = and_parts (nat_le 1 n) (nat_le n 512) counted in
    let least : 1 ≤ n = leb-true 1 n parts.0 in
    let most : n ≤ 512 = leb-true n 512 parts.1 in
    let empty : (length xs == 0) ≡ false = ne_eqb (length xs) 0 (λ e. omega (arith, e, size, least)) in
    let long : nat_lt 512 (length xs) ≡ false = le-ltb 512 (length xs) (omega (arith, size, most)) in
    let none : prefix_len is_other xs ≡ n = none_before (units_in bytes) n at.0 in
    let past : nat_lt (prefix_len is_other xs) (length xs) ≡ false = le-ltb (prefix_len is_other xs) (length xs) (omega (arith, none, size)) in
    (well (length xs == 0) (nat_lt 512 (length xs)) (nat_lt (prefix_len is_other xs) (length xs)) empty long past, All-take (λ u. u < 65536) n (units_in bytes) (All-from_recursion (λ u. u < 65536) (units_in bytes) (units_small bytes (recursion_from_All (λ b. b < 256) bytes all))))
  where
    well : (empty long past : Bool) → empty ≡ false → long ≡ false → past ≡ false
        → (if empty then Err Empty else if long then Err (TooLong (length (take n (units_in bytes)))) else nul_check (cond past (Some (prefix_len is_other (take n (units_in bytes)))) None)) ≡ Ok tt
    well empty long past x y z = rw (x, y, z) refl

-- a GUID of bytes
guid_in : (at : ℕ) (bytes : List ℕ) → at + 16 ≤ length bytes → AreBytes bytes → IsGuid (guid_at bytes at)
guid_in at bytes within all = (
  length-take-le 16 (drop at bytes) (let left = length-drop at bytes in omega (arith, left, within)),
  All-take (λ b. b < 256) 16 (drop at bytes) (All-drop (λ b. b < 256) at bytes all),
)

-- ---- what no test refuses

-- the tests of an entry that none of them refuses
pub record IsAccepted (bytes : List ℕ) : Type 0 where
  pub size : is_missized bytes ≡ false
  pub kind : nat_lt 3 (lock_type_of bytes) ≡ false
  pub state : (locks_on_state bytes && not (is_name (name_length bytes 62))) ≡ false
  pub name : has_ill_name bytes ≡ false
  pub many : nat_lt 254 (entry_wildcards bytes) ≡ false
  pub sizes : nat_lt (field_of bytes 28 4) (field_of bytes 24 4) ≡ false

all_passed : (size version kind state offset name many sizes : Bool) (value count : ℕ)
    → first_fault
    (fault_if size Size ∷ fault_if version Version ∷ fault_if kind (LockType value) ∷ fault_if state NameForm ∷ fault_if offset Offset
    ∷ fault_if name NameForm ∷ fault_if many (Wildcards count) ∷ fault_if sizes MinAboveMax ∷ []) ≡ None
    → (size ≡ false) × (kind ≡ false) × (state ≡ false) × (name ≡ false) × (many ≡ false) × (sizes ≡ false)
all_passed size version kind state offset name many sizes value count h =
    let last : List (Option EntryFault) = fault_if sizes MinAboveMax ∷ [] in
    let seven : List (Option EntryFault) = fault_if many (Wildcards count) ∷ last in
    let six : List (Option EntryFault) = fault_if name NameForm ∷ seven in
    let five : List (Option EntryFault) = fault_if offset Offset ∷ six in
    let four : List (Option EntryFault) = fault_if state NameForm ∷ five in
    let three : List (Option EntryFault) = fault_if kind (LockType value) ∷ four in
    let a = passed size Size (fault_if version Version ∷ three) h in
    let b = passed version Version three a.1 in
    let c = passed kind (LockType value) four b.1 in
    let d = passed state NameForm five c.1 in
    let e = passed offset Offset six d.1 in
    let f = passed name NameForm seven e.1 in
    let g = passed many (Wildcards count) last f.1 in
    let i = passed sizes MinAboveMax [] g.1 in
    (a.0, c.0, d.0, f.0, g.0, i.0)

accepted : (bytes : List ℕ) → first_fault (entry_tests bytes) ≡ None → IsAccepted bytes
unfolding entry_tests
accepted bytes h =
    let all =
    all_passed (is_missized bytes) (not (field_of bytes 0 4 == 0x00010000)) (nat_lt 3 (lock_type_of bytes))
    (locks_on_state bytes && not (is_name (name_length bytes 62))) (not (field_of bytes 6 2 == name_offset bytes)) (has_ill_name bytes)
    (nat_lt 254 (entry_wildcards bytes)) (nat_lt (field_of bytes 28 4) (field_of bytes 24 4)) (lock_type_of bytes) (entry_wildcards bytes) h in
    record { size = all.0; kind = all.1; state = all.2; name = all.3; many = all.4; sizes = all.5 }

-- the bytes of an accepted entry are 44 or more, and 62 or more for a lock on a variable's state
sized : (bytes : List ℕ) → is_missized bytes ≡ false → (44 ≤ length bytes) × (locks_on_state bytes ≡ true → 62 ≤ length bytes)
sized bytes h =
    let header = neither _ _ h in
    let rest = neither _ _ header.1 in (
      ltb-false (length bytes) 44 header.0,
      λ state. ltb-false (length bytes) 62 (and_other (locks_on_state bytes) _ state rest.1),
    )

module _ (bytes : List ℕ) (all : AreBytes bytes) (is : IsAccepted bytes) where
  number_in : (at : ℕ) → at + 4 ≤ 44 → field_of bytes at 4 < 2 ^ 32
  number_in at within =
      let least = (sized bytes is.size).0 in
      let left = length-drop at bytes in
      number_small (drop at bytes) (omega (arith, left, least, within)) (All-drop (λ b. b < 256) at bytes all)

  own_name : (found : Option ℕ) → name_length bytes (name_offset bytes) ≡ found → IfSome (entry_name bytes found) IsNameOfUnits
  own_name None h = tt
  own_name (Some n) h =
      let ends = untrue (ends_with_name (length (drop (name_offset bytes) bytes)) (Some n))
      (ap (λ (f : Option ℕ). not (ends_with_name (length (drop (name_offset bytes) bytes)) f)) (sym h) ∙ is.name) in
      let parts = and_parts (is_name_length n) (length (drop (name_offset bytes) bytes) == 2 * n + 2) ends in
      front_named (drop (name_offset bytes) bytes) n (All-drop (λ b. b < 256) (name_offset bytes) bytes all) h parts.0

  few_wildcards : (name : Option (List ℕ)) → nat_lt 254 (name_wildcards name) ≡ false → IfSome name (λ units. count_by is_wildcard units ≤ 254)
  few_wildcards None h = tt
  few_wildcards (Some units) h = ltb-false 254 (count_by is_wildcard units) h

  -- the name of the variable whose state locks
  state_name : (found : Option ℕ) → name_length bytes 62 ≡ found → is_name found ≡ true → IsNameOfUnits (units_at bytes 62 (unwrap_or found 0))
  state_name None h named = cc
  state_name (Some n) h named = front_named (drop 62 bytes) n (All-drop (λ b. b < 256) 62 bytes all) h named

  state_units_named : locks_on_state bytes ≡ true → IsNameOfUnits (state_units bytes)
  state_units_named state =
      state_name (name_length bytes 62) refl (untrue (is_name (name_length bytes 62)) (and_other (locks_on_state bytes) _ state is.state))

  lock_spelled : (kind : ℕ) → lock_type_of bytes ≡ kind → kind ≤ 3 → CanSpellLock (lock_of bytes kind)
  lock_spelled zero h most = tt
  lock_spelled (suc zero) h most = tt
  lock_spelled (suc (suc zero)) h most = tt
  lock_spelled (suc (suc (suc zero))) h most =
      let state : locks_on_state bytes ≡ true = ap (λ k. k == 3) h in
      let least : 62 ≤ length bytes = (sized bytes is.size).1 state in
      (guid_in 44 bytes (omega (arith, least)) all, state_units_named state, all 60 0 (omega (arith, least)))
  lock_spelled (suc (suc (suc (suc kind)))) h most = absurd (omega (arith, most))

  policy_spelled : CanSpell (policy_of bytes)
  unfolding policy_of
  policy_spelled = record {
    namespace = guid_in 8 bytes (let least = (sized bytes is.size).0 in omega (arith, least)) all;
    name = own_name (name_length bytes (name_offset bytes)) refl;
    wildcards = few_wildcards (entry_name bytes (name_length bytes (name_offset bytes))) is.many;
    sizes = ltb-false (field_of bytes 28 4) (field_of bytes 24 4) is.sizes;
    max = number_in 28 (omega arith);
    must = number_in 32 (omega arith);
    cant = number_in 36 (omega arith);
    lock = lock_spelled (lock_type_of bytes) refl (ltb-false 3 (lock_type_of bytes) is.kind);
  }

-- what is read of an entry is a policy that entries can spell
pub entry_spelled : (bytes : List ℕ) (policy : Policy) → AreBytes bytes → entry_of bytes ≡ Ok policy → CanSpell policy
unfolding entry_of
entry_spelled bytes policy all h = by (first_fault (entry_tests bytes)) refl h
  where
    by : (found : Option EntryFault) → first_fault (entry_tests bytes) ≡ found → entry_read bytes found ≡ Ok policy → CanSpell policy
    by None is h =
        let same : policy_of bytes ≡ policy = ap (λ (r : Result Policy EntryFault). or_else r) h in
        subst CanSpell same (policy_spelled bytes all (accepted bytes is))
      where
        or_else : Result Policy EntryFault → Policy
        or_else (Ok p) = p
        or_else (Err e) = policy
    by (Some fault) is h = cc
