-- The entry of a policy reads back as the policy.
use Rattle.std.proofs.Common.{◌≡◌, ℕ, ◌+◌, ◌*◌, ◌^◌, ◌<◌, ◌≤◌, Bool, true, false, List, [], ◌∷◌, ◌++◌, length, take, drop, get_or, Option, Some, None, Ok, refl, sym, ap, ◌∙◌, arith, append_assoc, length-append}
use Rattle.std.proofs.lemmas.Bool.{and_parts, eq-eqb, le-ltb, leb-true}
use Rattle.std.proofs.lemmas.List.{append-nil, drop-drop, drop_at, get_or-drop, take_at}
use Rattle.std.specs.Prelude.{◌==◌, ◌&&◌, ◌||◌, IfSome, count_by, if◌then◌else◌, nat_le, nat_lt, not, position, slice_index, unwrap_or}
use Rattle.byteorder.specs.Endian.{little_bytes, little_number}
use Rattle.byteorder.specs.Numbers.{little_number-reads_back}
use Rattle.policy_entry.proofs.NulEnds.{IsRead, is_nul, name_again, named}
use Rattle.policy_entry.proofs.Sizes.{nul_ended_size, state_field_size}
use Rattle.var_types.specs.Descriptor.{field_of}
use Rattle.var_types.specs.Live.{units_in}
use Rattle.var_types.specs.Policies.{is_wildcard}
use Rattle.var_types.specs.PolicyEntry.{CanSpell, CanSpellLock, IsNameOfUnits, ends_with_name, entry_bytes, entry_header, entry_name, entry_of, entry_read, entry_size, entry_tests, entry_wildcards, fault_if, first_fault, guid_at, has_ill_name, is_missized, is_name, lock_field, lock_of, lock_type, lock_type_of, locks_on_state, name_field, name_length, name_offset, name_wildcards, nul_ended, offset_to_name, policy_of, state_end, state_units}
use Rattle.var_types.specs.declared.entry_fault.EntryFault.TheVariants.{LockType, MinAboveMax, NameForm, Offset, Size, Version, Wildcards}
use Rattle.var_types.specs.declared.key.Key.{Key}
use Rattle.var_types.specs.declared.policy.Lock.{Lock}
use Rattle.var_types.specs.declared.policy.Lock.TheVariants.{NoLock, Now, OnCreate, OnState}
use Rattle.var_types.specs.declared.policy.Policy.{Policy}

module _ (p : Policy) (rest : List ℕ) (sixteen : length p.namespace.bytes ≡ 16) where
  -- what follows the namespace
  abbrev pub behind_namespace : List ℕ
  behind_namespace =
      little_bytes 4 p.min ++ (little_bytes 4 p.max ++ (little_bytes 4 p.must ++ (little_bytes 4 p.cant ++ (lock_type p.lock ∷ 0 ∷ 0 ∷ 0 ∷ rest))))

  -- the fixed fields and more behind them
  abbrev pub whole : List ℕ
  whole = entry_header p ++ rest

  -- from the namespace on
  from_namespace : drop 8 whole ≡ p.namespace.bytes ++ behind_namespace
  from_namespace =
      let ns = p.namespace.bytes in
      let a = little_bytes 4 p.min in
      let b = little_bytes 4 p.max in
      let c = little_bytes 4 p.must in
      let d = little_bytes 4 p.cant in
      let e : List ℕ = lock_type p.lock ∷ 0 ∷ 0 ∷ 0 ∷ [] in
      append_assoc (ns ++ a ++ b ++ c ++ d) e rest ∙ append_assoc (ns ++ a ++ b ++ c) d (e ++ rest) ∙ append_assoc (ns ++ a ++ b) c (d ++ (e ++ rest))
      ∙ append_assoc (ns ++ a) b (c ++ (d ++ (e ++ rest))) ∙ append_assoc ns a (b ++ (c ++ (d ++ (e ++ rest))))

  -- what stands further behind
  pub further : (n : ℕ) → drop (24 + n) whole ≡ drop n behind_namespace
  further n =
      sym (drop-drop n 24 whole)
      ∙ ap (drop n) (sym (drop-drop 16 8 whole) ∙ ap (drop 16) from_namespace ∙ drop_at p.namespace.bytes behind_namespace 16 sixteen)

  pub namespace_again : guid_at whole 8 ≡ p.namespace
  namespace_again = ap (λ (bs : List ℕ). record { bytes = take 16 bs }) from_namespace ∙ ap (λ (bs : List ℕ). record { bytes = bs }) (take_at p.namespace.bytes behind_namespace 16 sixteen)

  -- LockPolicyType
  pub type_again : slice_index whole 40 ≡ lock_type p.lock
  type_again = sym (get_or-drop 24 whole 16 0) ∙ ap (λ (bs : List ℕ). get_or bs 16 0) (further 0)

  -- the sizes and the attributes
  pub min_again : p.min < 256 ^ 4 → field_of whole 24 4 ≡ p.min
  min_again small = ap (little_number 4) (further 0) ∙ little_number-reads_back 4 p.min (drop 4 behind_namespace) small

  pub max_again : p.max < 256 ^ 4 → field_of whole 28 4 ≡ p.max
  max_again small = ap (little_number 4) (further 4) ∙ little_number-reads_back 4 p.max (drop 8 behind_namespace) small

  pub must_again : p.must < 256 ^ 4 → field_of whole 32 4 ≡ p.must
  must_again small = ap (little_number 4) (further 8) ∙ little_number-reads_back 4 p.must (drop 12 behind_namespace) small

  pub cant_again : p.cant < 256 ^ 4 → field_of whole 36 4 ≡ p.cant
  cant_again small = ap (little_number 4) (further 12) ∙ little_number-reads_back 4 p.cant (drop 16 behind_namespace) small

  -- Size and OffsetToName
  pub size_again : entry_size p < 256 ^ 2 → field_of whole 4 2 ≡ entry_size p
  size_again small = little_number-reads_back 2 (entry_size p) (drop 6 whole) small

  pub offset_again : offset_to_name p < 256 ^ 2 → field_of whole 6 2 ≡ offset_to_name p
  offset_again small = little_number-reads_back 2 (offset_to_name p) (drop 8 whole) small

  -- Version
  pub version_again : field_of whole 0 4 ≡ 0x00010000
  version_again = refl

  -- the fixed fields have 44 bytes
  pub length-header : length (entry_header p) ≡ 44
  length-header =
      let ns = p.namespace.bytes in
      let a = little_bytes 4 p.min in
      let b = little_bytes 4 p.max in
      let c = little_bytes 4 p.must in
      let d = little_bytes 4 p.cant in
      omega (
        arith,
        sixteen,
        length-append (ns ++ a ++ b ++ c ++ d) (lock_type p.lock ∷ 0 ∷ 0 ∷ 0 ∷ []),
        length-append (ns ++ a ++ b ++ c) d,
        length-append (ns ++ a ++ b) c,
        length-append (ns ++ a) b,
        length-append ns a,
      )

-- nothing and false
and_false : (b : Bool) → (b && false) ≡ false
and_false true = refl
and_false false = refl

-- ---- the lock and where the name stands

-- what is read of a lock, in bytes with this name field behind it
pub record IsLockRead (bytes : List ℕ) (lock : Lock) (name : List ℕ) : Type 0 where
  pub offset : name_offset bytes ≡ 44 + length (lock_field lock)
  pub behind : drop (name_offset bytes) bytes ≡ name
  pub named : (locks_on_state bytes && not (is_name (name_length bytes 62))) ≡ false
  pub long : (locks_on_state bytes && nat_lt (length bytes) 62) ≡ false
  pub known : nat_lt 3 (lock_type_of bytes) ≡ false
  pub same_lock : lock_of bytes (lock_type_of bytes) ≡ lock

-- a lock of another kind than on a variable's state
plain_read : (bytes : List ℕ) (lock : Lock) (name : List ℕ) → (lock_type_of bytes == 3) ≡ false → lock_of bytes (lock_type_of bytes) ≡ lock
    → lock_type_of bytes ≤ 3 → lock_field lock ≡ [] → drop 44 bytes ≡ name → IsLockRead bytes lock name
plain_read bytes lock name other is small none behind =
    let offset : name_offset bytes ≡ 44 = ap (λ (b : Bool). if b then state_end (name_length bytes 62) else 44) other in
    record {
      offset = offset ∙ (let e : 44 ≡ 44 + length (lock_field lock) = ap (λ (f : List ℕ). 44 + length f) (sym none) in e);
      behind = ap (λ n. drop n bytes) offset ∙ behind;
      named = ap (λ (b : Bool). b && not (is_name (name_length bytes 62))) other;
      long = ap (λ (b : Bool). b && nat_lt (length bytes) 62) other;
      known = le-ltb 3 (lock_type_of bytes) small;
      same_lock = is;
    }

-- a lock on a variable's state
state_read : (bytes : List ℕ) (key : Key) (value : ℕ) (name : List ℕ) → CanSpellLock (OnState key value) → lock_type_of bytes ≡ 3
    → drop 44 bytes ≡ lock_field (OnState key value) ++ name → length bytes ≡ 44 + length (lock_field (OnState key value)) + length name
    → IsLockRead bytes (OnState key value) name
state_read bytes key value name can kind behind size =
    let guid = key.guid.bytes in
    let field = nul_ended key.name in
    let tail : List ℕ = value ∷ 0 ∷ (field ++ name) in
    let sixteen : length guid ≡ 16 = can.0.0 in
    let read : IsRead (field ++ name) key.name = name_again key.name name can.1 in
    let well = named key.name can.1.0 in
    let state : locks_on_state bytes ≡ true = ap (λ k. k == 3) kind in
    let at_44 : drop 44 bytes ≡ guid ++ tail =
    behind ∙ append_assoc (guid ++ (value ∷ 0 ∷ [])) field name ∙ append_assoc guid (value ∷ 0 ∷ []) (field ++ name) in
    let at_60 : drop 60 bytes ≡ tail = sym (drop-drop 16 44 bytes) ∙ ap (drop 16) at_44 ∙ drop_at guid tail 16 sixteen in
    let at_62 : drop 62 bytes ≡ field ++ name = sym (drop-drop 2 60 bytes) ∙ ap (drop 2) at_60 in
    let found : name_length bytes 62 ≡ Some (length key.name) = ap (λ (bs : List ℕ). position is_nul (units_in bs)) at_62 ∙ read.found in
    let offset : name_offset bytes ≡ 62 + 2 * length key.name + 2 =
    ap (λ (b : Bool). if b then state_end (name_length bytes 62) else 44) state ∙ ap state_end found in
    let length_field : length field ≡ 2 * length key.name + 2 = nul_ended_size key.name in
    let places : name_offset bytes ≡ 62 + length field = omega (arith, offset, length_field) in
    let units : state_units bytes ≡ key.name =
    ap (λ n. take (unwrap_or n 0) (units_in (drop 62 bytes))) found ∙ ap (λ (bs : List ℕ). take (length key.name) (units_in bs)) at_62 ∙ read.taken in
    let one : slice_index bytes 60 ≡ value = sym (get_or-drop 60 bytes 0 0) ∙ ap (λ (bs : List ℕ). get_or bs 0 0) at_60 in
    let guid_is : guid_at bytes 44 ≡ key.guid =
    ap (λ (bs : List ℕ). record { bytes = take 16 bs }) at_44 ∙ ap (λ (bs : List ℕ). record { bytes = bs }) (take_at guid tail 16 sixteen) in
    let all_size = state_field_size key value in
    record {
      offset = omega (arith, offset, all_size, length_field, sixteen);
      behind = ap (λ n. drop n bytes) places ∙ sym (drop-drop (length field) 62 bytes) ∙ ap (drop (length field)) at_62 ∙ drop_at field name (length field) refl;
      named =
          ap (λ (n : Option ℕ). locks_on_state bytes && not (is_name n)) found ∙ ap (λ (b : Bool). locks_on_state bytes && not b) well.counted
          ∙ and_false (locks_on_state bytes);
      long =
          ap (λ (b : Bool). locks_on_state bytes && b)
          (le-ltb (length bytes) 62 (omega (arith, size, all_size, sixteen)))
          ∙ and_false (locks_on_state bytes);
      known = le-ltb 3 (lock_type_of bytes) (omega (arith, kind));
      same_lock = ap (lock_of bytes) kind ∙ (λ i. OnState (record { guid = guid_is i; name = units i }) (one i));
    }

-- any lock
pub lock_read : (bytes : List ℕ) (lock : Lock) (name : List ℕ) → CanSpellLock lock → lock_type_of bytes ≡ lock_type lock
    → drop 44 bytes ≡ lock_field lock ++ name → length bytes ≡ 44 + length (lock_field lock) + length name → IsLockRead bytes lock name
lock_read bytes NoLock name can kind behind size =
    plain_read bytes NoLock name (ap (λ k. k == 3) kind) (ap (lock_of bytes) kind) (omega (arith, kind)) refl behind
lock_read bytes Now name can kind behind size =
    plain_read bytes Now name (ap (λ k. k == 3) kind) (ap (lock_of bytes) kind) (omega (arith, kind)) refl behind
lock_read bytes OnCreate name can kind behind size =
    plain_read bytes OnCreate name (ap (λ k. k == 3) kind) (ap (lock_of bytes) kind) (omega (arith, kind)) refl behind
lock_read bytes (OnState key value) name can kind behind size = state_read bytes key value name can kind behind size

-- ---- the name

-- what is read of a name
pub record IsNameRead (bytes : List ℕ) (own : Option (List ℕ)) : Type 0 where
  pub same_name : entry_name bytes (name_length bytes (name_offset bytes)) ≡ own
  pub well : has_ill_name bytes ≡ false

-- a name that stands alone behind the lock, or none
name_read : (bytes : List ℕ) (own : Option (List ℕ)) → IfSome own IsNameOfUnits → drop (name_offset bytes) bytes ≡ name_field own → IsNameRead bytes own
name_read bytes None is behind =
    let found : name_length bytes (name_offset bytes) ≡ None = ap (λ (bs : List ℕ). position is_nul (units_in bs)) behind in
    record {
      same_name = ap (entry_name bytes) found;
      well =
          ap (λ (n : Option ℕ). not (ends_with_name (length (drop (name_offset bytes) bytes)) n)) found
          ∙ ap (λ (bs : List ℕ). not (ends_with_name (length bs) None)) behind;
    }
name_read bytes (Some units) is behind =
    let field = nul_ended units in
    let read : IsRead (field ++ []) units = name_again units [] is in
    let at : drop (name_offset bytes) bytes ≡ field ++ [] = behind ∙ sym (append-nil field) in
    let found : name_length bytes (name_offset bytes) ≡ Some (length units) = ap (λ (bs : List ℕ). position is_nul (units_in bs)) at ∙ read.found in
    let size : length (drop (name_offset bytes) bytes) ≡ 2 * length units + 2 = ap (λ (bs : List ℕ). length bs) behind ∙ nul_ended_size units in
    record {
      same_name =
          ap (entry_name bytes) found ∙ ap (λ (us : List ℕ). Some us) (ap (λ (bs : List ℕ). take (length units) (units_in bs)) at ∙ read.taken);
      well =
          ap (λ (n : Option ℕ). not (ends_with_name (length (drop (name_offset bytes) bytes)) n)) found
          ∙ ap (λ (b : Bool). not (b && (length (drop (name_offset bytes) bytes) == 2 * length units + 2))) (named units is.0).counted
          ∙ ap (λ (b : Bool). not b) (eq-eqb (length (drop (name_offset bytes) bytes)) (2 * length units + 2) size);
    }

-- its wildcards are few enough
few : (own : Option (List ℕ)) → IfSome own (λ units. count_by is_wildcard units ≤ 254) → nat_lt 254 (name_wildcards own) ≡ false
few None h = refl
few (Some units) h = le-ltb 254 (count_by is_wildcard units) h

-- ---- no test refuses

-- tests of which none holds
none_holds : (size version kind state offset name many sizes : Bool) (value count : ℕ) → size ≡ false → version ≡ false → kind ≡ false
    → state ≡ false → offset ≡ false → name ≡ false → many ≡ false → sizes ≡ false
    → first_fault
    (fault_if size Size ∷ fault_if version Version ∷ fault_if kind (LockType value) ∷ fault_if state NameForm ∷ fault_if offset Offset
    ∷ fault_if name NameForm ∷ fault_if many (Wildcards count) ∷ fault_if sizes MinAboveMax ∷ []) ≡ None
none_holds size version kind state offset name many sizes value count a b c d e f g h = rw (a, b, c, d, e, f, g, h) refl

-- one of three
none_of_three : (a b c : Bool) → a ≡ false → b ≡ false → c ≡ false → (a || (b || c)) ≡ false
none_of_three a b c x y z = ap (λ (d : Bool). d || (b || c)) x ∙ ap (λ (d : Bool). d || c) y ∙ z

-- a name field has no more than 1,026 bytes
short_name : (own : Option (List ℕ)) → IfSome own IsNameOfUnits → length (name_field own) ≤ 1026
short_name None is = omega arith
short_name (Some units) is =
    let size = nul_ended_size units in
    let most = leb-true (length units) 512 (and_parts (nat_le 1 (length units)) (nat_le (length units) 512) (named units is.0).counted).1 in
    omega (arith, size, most)

short_lock : (lock : Lock) → CanSpellLock lock → length (lock_field lock) ≤ 1044
short_lock NoLock can = omega arith
short_lock Now can = omega arith
short_lock OnCreate can = omega arith
short_lock (OnState key value) can =
    let size = state_field_size key value in
    let name = nul_ended_size key.name in
    let most = leb-true (length key.name) 512 (and_parts (nat_le 1 (length key.name)) (nat_le (length key.name) 512) (named key.name can.1.0).counted).1 in
    let guid : length key.guid.bytes ≡ 16 = can.0.0 in
    omega (arith, size, name, most, guid)

module _ (p : Policy) (can : CanSpell p) where
  abbrev sixteen : length p.namespace.bytes ≡ 16
  sixteen = can.namespace.0

  abbrev bytes : List ℕ
  bytes = whole p (lock_field p.lock ++ name_field p.name) sixteen

  length-bytes : length bytes ≡ 44 + length (lock_field p.lock) + length (name_field p.name)
  length-bytes =
      omega (
        arith,
        length-append (entry_header p) (lock_field p.lock ++ name_field p.name),
        length-append (lock_field p.lock) (name_field p.name),
        length-header p (lock_field p.lock ++ name_field p.name) sixteen,
      )

  the_lock : IsLockRead bytes p.lock (name_field p.name)
  the_lock =
      lock_read bytes p.lock (name_field p.name) can.lock (type_again p (lock_field p.lock ++ name_field p.name) sixteen)
      (further p (lock_field p.lock ++ name_field p.name) sixteen 20) length-bytes

  the_name : IsNameRead bytes p.name
  the_name = name_read bytes p.name can.name the_lock.behind

  size_small : entry_size p ≤ 2114
  size_small = let l = short_lock p.lock can.lock in let n = short_name p.name can.name in omega (arith, l, n)

  no_fault : first_fault (entry_tests bytes) ≡ None
  unfolding entry_tests
  no_fault =
      let r = lock_field p.lock ++ name_field p.name in
      let size : field_of bytes 4 2 ≡ length bytes = size_again p r sixteen (omega (arith, size_small)) ∙ sym length-bytes in
      let offset : field_of bytes 6 2 ≡ name_offset bytes = offset_again p r sixteen (omega (arith, size_small)) ∙ sym the_lock.offset in
      let sizes = can.sizes in
      let max = can.max in
      let min_is = min_again p r sixteen (omega (arith, sizes, max)) in
      let max_is = max_again p r sixteen (omega (arith, max)) in
      none_holds (is_missized bytes) (not (field_of bytes 0 4 == 0x00010000)) (nat_lt 3 (lock_type_of bytes))
      (locks_on_state bytes && not (is_name (name_length bytes 62))) (not (field_of bytes 6 2 == name_offset bytes)) (has_ill_name bytes)
      (nat_lt 254 (entry_wildcards bytes)) (nat_lt (field_of bytes 28 4) (field_of bytes 24 4)) (lock_type_of bytes) (entry_wildcards bytes)
      (none_of_three (nat_lt (length bytes) 44) (not (field_of bytes 4 2 == length bytes)) (locks_on_state bytes && nat_lt (length bytes) 62)
      (le-ltb (length bytes) 44 (omega (arith, length-bytes))) (ap (λ (b : Bool). not b) (eq-eqb (field_of bytes 4 2) (length bytes) size))
      the_lock.long)
      (ap (λ (b : Bool). not b) (eq-eqb (field_of bytes 0 4) 0x00010000 (version_again p r sixteen))) the_lock.known the_lock.named
      (ap (λ (b : Bool). not b) (eq-eqb (field_of bytes 6 2) (name_offset bytes) offset)) the_name.well
      (ap (λ (own : Option (List ℕ)). nat_lt 254 (name_wildcards own)) the_name.same_name ∙ few p.name can.wildcards)
      (le-ltb (field_of bytes 28 4) (field_of bytes 24 4) (omega (arith, min_is, max_is, sizes)))

  same_policy : policy_of bytes ≡ p
  unfolding policy_of
  same_policy =
      let r = lock_field p.lock ++ name_field p.name in
      let sizes = can.sizes in
      let max = can.max in
      let namespace = namespace_again p r sixteen in
      let min_is = min_again p r sixteen (omega (arith, sizes, max)) in
      let max_is = max_again p r sixteen (omega (arith, max)) in
      let must_is = must_again p r sixteen (let m = can.must in omega (arith, m)) in
      let cant_is = cant_again p r sixteen (let m = can.cant in omega (arith, m)) in
      λ i. record {
        namespace = namespace i;
        name = the_name.same_name i;
        min = min_is i;
        max = max_is i;
        must = must_is i;
        cant = cant_is i;
        lock = the_lock.same_lock i;
      }

  -- the entry of a policy reads back as the policy
  pub read_back : entry_of (entry_bytes p) ≡ Ok p
  unfolding entry_of entry_bytes
  read_back =
      ap entry_of (append_assoc (entry_header p) (lock_field p.lock) (name_field p.name))
      ∙ ap (entry_read bytes) no_fault ∙ ap Ok same_policy
