-- The policy that is read of an entry is written as the entry, with its padding 0.
use Rattle.std.proofs.Common.{◌≡◌, ℕ, zero, suc, ◌+◌, ◌*◌, ◌/◌, ◌%◌, ◌<◌, ◌≤◌, Bool, true, false, cond, List, [], ◌∷◌, ◌++◌, length, take, drop, Option, Some, None, Ok, refl, sym, ap, ◌∙◌, arith, append_assoc, length-append}
use Rattle.std.proofs.lemmas.Bool.{and_parts, eqb-true, ltb-false, ltb-true, or_parts}
use Rattle.std.proofs.lemmas.List.{drop-drop, get_or-drop, length-drop, length-take-le, take-append-drop, take_all, take_more}
use Rattle.std.specs.List.{AllByRecursion, prefix_len}
use Rattle.std.specs.Prelude.{◌==◌, ◌&&◌, ◌||◌, flat_map, if◌then◌else◌, nat_lt, not, position, slice_index, unwrap_or}
use Rattle.byteorder.specs.Endian.{little_bytes, little_number}
use Rattle.policy_entry.proofs.NulEnds.{is_nul, is_other}
use Rattle.policy_entry.proofs.Units.{length-units_in}
use Rattle.policy_entry.specs.Laws.{unpadded, unpadded_rest}
use Rattle.var_types.specs.Key.{key_of}
use Rattle.var_types.specs.Live.{units_in}
use Rattle.var_types.specs.Descriptor.{field_of}
use Rattle.var_types.specs.PolicyEntry.{ends_with_name, entry_bytes, entry_header, entry_name, entry_of, entry_read, entry_size, entry_tests, entry_wildcards, fault_if, first_fault, guid_at, has_ill_name, is_missized, is_name, is_name_length, lock_field, lock_of, lock_type, lock_type_of, locks_on_state, name_field, name_length, name_offset, nul_ended, offset_to_name, policy_of, state_end, state_units}
use Rattle.var_types.specs.declared.entry_fault.EntryFault.{EntryFault}
use Rattle.var_types.specs.declared.entry_fault.EntryFault.TheVariants.{LockType, MinAboveMax, NameForm, Offset, Size, Version, Wildcards}
use Rattle.var_types.specs.declared.policy.Lock.{Lock}
use Rattle.var_types.specs.declared.policy.Lock.TheVariants.{NoLock, Now, OnCreate, OnState}
use Rattle.var_types.specs.declared.policy.Policy.{Policy}

-- all are bytes
abbrev pub Bytes : List ℕ → Type 0
Bytes xs = AllByRecursion (λ b. b < 256) xs

-- those from an offset on
pub bytes_from : (n : ℕ) (xs : List ℕ) → Bytes xs → Bytes (drop n xs)
bytes_from zero xs all = all
bytes_from (suc n) [] all = tt
bytes_from (suc n) (x ∷ xs) all = bytes_from n xs all.1

-- a number of two bytes
pub two_again : (xs : List ℕ) → 2 ≤ length xs → Bytes xs → little_bytes 2 (little_number 2 xs) ≡ take 2 xs
two_again [] h all = absurd (omega arith)
two_again (a ∷ []) h all = absurd (omega arith)
two_again (a ∷ b ∷ rest) h all =
    let x : a < 256 = all.0 in
    let y : b < 256 = all.1.0 in
    let n : ℕ = a + 256 * (b + 256 * 0) in
    let low : n % 256 ≡ a = omega (arith, x, y) in
    let high : n / 256 % 256 ≡ b = omega (arith, x, y) in
    λ i. low i ∷ high i ∷ []

-- one of four
pub four_again : (xs : List ℕ) → 4 ≤ length xs → Bytes xs → little_bytes 4 (little_number 4 xs) ≡ take 4 xs
four_again [] h all = absurd (omega arith)
four_again (a ∷ []) h all = absurd (omega arith)
four_again (a ∷ b ∷ []) h all = absurd (omega arith)
four_again (a ∷ b ∷ c ∷ []) h all = absurd (omega arith)
four_again (a ∷ b ∷ c ∷ d ∷ rest) h all =
    let x : a < 256 = all.0 in
    let y : b < 256 = all.1.0 in
    let z : c < 256 = all.1.1.0 in
    let w : d < 256 = all.1.1.1.0 in
    let n : ℕ = a + 256 * (b + 256 * (c + 256 * (d + 256 * 0))) in
    let first : n % 256 ≡ a = omega (arith, x, y, z, w) in
    let second : n / 256 % 256 ≡ b = omega (arith, x, y, z, w) in
    let third : n / 65536 % 256 ≡ c = omega (arith, x, y, z, w) in
    let fourth : n / 16777216 % 256 ≡ d = omega (arith, x, y, z, w) in
    λ i. first i ∷ second i ∷ third i ∷ fourth i ∷ []

-- where the first NUL stands
position_is : (xs : List ℕ) (n : ℕ) → position is_nul xs ≡ Some n → (prefix_len is_other xs ≡ n) × (n < length xs)
position_is xs n h = by (nat_lt (prefix_len is_other xs) (length xs)) refl h
  where
    by : (b : Bool) → nat_lt (prefix_len is_other xs) (length xs) ≡ b → cond b (Some (prefix_len is_other xs)) None ≡ Some n
        → (prefix_len is_other xs ≡ n) × (n < length xs)
    by true is h =
        let same : prefix_len is_other xs ≡ n = cc in
        let within = ltb-true (prefix_len is_other xs) (length xs) is in
        (same, omega (arith, same, within))
    by false is h = cc

-- a name with its NUL at the front of bytes is written as it stands
front_written : (xs : List ℕ) → Bytes xs → (n k : ℕ) → k ≡ 2 * n + 2 → prefix_len is_other (units_in xs) ≡ n → n < length (units_in xs)
    → flat_map (little_bytes 2) (take n (units_in xs)) ++ 0 ∷ 0 ∷ [] ≡ take k xs
front_written [] all n k is stop within = absurd (omega (arith, within))
front_written (a ∷ []) all n k is stop within = absurd (omega (arith, within))
front_written (a ∷ b ∷ rest) all n k is stop within = by (is_nul (a + 256 * b)) refl n k is stop within (λ m j e s w. front_written rest all.1.1 m j e s w)
  where
    by : (nul : Bool) → is_nul (a + 256 * b) ≡ nul → (n k : ℕ) → k ≡ 2 * n + 2 → prefix_len is_other (units_in (a ∷ b ∷ rest)) ≡ n
        → n < length (units_in (a ∷ b ∷ rest))
        → ((m j : ℕ) → j ≡ 2 * m + 2 → prefix_len is_other (units_in rest) ≡ m → m < length (units_in rest)
        → flat_map (little_bytes 2) (take m (units_in rest)) ++ 0 ∷ 0 ∷ [] ≡ take j rest)
        → flat_map (little_bytes 2) (take n (units_in (a ∷ b ∷ rest))) ++ 0 ∷ 0 ∷ [] ≡ take k (a ∷ b ∷ rest)
    by true nul n zero is stop within more = absurd (omega (arith, is))
    by true nul n (suc zero) is stop within more = absurd (omega (arith, is))
    by true nul (suc n) (suc (suc k)) is stop within more =
        let none : prefix_len is_other (units_in (a ∷ b ∷ rest)) ≡ 0 = ap (λ (d : Bool). cond (not d) (1 + prefix_len is_other (units_in rest)) 0) nul in
        absurd (omega (arith, none, stop))
    by true nul zero (suc (suc k)) is stop within more =
        let unit : a + 256 * b ≡ 0 = eqb-true (a + 256 * b) 0 nul in
        let low : 0 ≡ a = omega (arith, unit) in
        let high : 0 ≡ b = omega (arith, unit) in
        let end : k ≡ 0 = omega (arith, is) in
        λ i. low i ∷ high i ∷ ap (λ m. take m rest) (sym end) i
    by false nul zero k is stop within more =
        let goes : prefix_len is_other (units_in (a ∷ b ∷ rest)) ≡ 1 + prefix_len is_other (units_in rest) =
        ap (λ (d : Bool). cond (not d) (1 + prefix_len is_other (units_in rest)) 0) nul in
        absurd (omega (arith, goes, stop))
    by false nul (suc n) zero is stop within more = absurd (omega (arith, is))
    by false nul (suc n) (suc zero) is stop within more = absurd (omega (arith, is))
    by false nul (suc n) (suc (suc k)) is stop within more =
        let x : a < 256 = all.0 in
        let y : b < 256 = all.1.0 in
        let goes : prefix_len is_other (units_in (a ∷ b ∷ rest)) ≡ 1 + prefix_len is_other (units_in rest) =
        ap (λ (d : Bool). cond (not d) (1 + prefix_len is_other (units_in rest)) 0) nul in
        let low : (a + 256 * b) % 256 ≡ a = omega (arith, x, y) in
        let high : (a + 256 * b) / 256 % 256 ≡ b = omega (arith, x, y) in
        let behind = more n k (omega (arith, is)) (omega (arith, goes, stop)) (omega (arith, within)) in
        λ i. low i ∷ high i ∷ behind i

-- by the place of its NUL
pub name_written : (xs : List ℕ) (n : ℕ) → Bytes xs → position is_nul (units_in xs) ≡ Some n
    → nul_ended (take n (units_in xs)) ≡ take (2 * n + 2) xs
name_written xs n all found =
    let at = position_is (units_in xs) n found in
    front_written xs all n (2 * n + 2) refl at.0 at.1

take_nil : (n : ℕ) → take {A = ℕ} n [] ≡ []
take_nil zero = refl
take_nil (suc n) = refl

-- pieces that stand one behind the other
pub joined : (m n : ℕ) (xs : List ℕ) → take m xs ++ take n (drop m xs) ≡ take (m + n) xs
joined zero n xs = ap (λ k. take k xs) (let e : n ≡ zero + n = omega arith in e)
joined (suc m) n [] = take_nil n ∙ sym (take_nil (suc m + n))
joined (suc m) n (x ∷ xs) =
    let next : suc (m + n) ≡ suc m + n = omega arith in
    ap (λ (ys : List ℕ). x ∷ ys) (joined m n xs) ∙ ap (λ k. take k (x ∷ xs)) next

-- what no test refuses
pub record IsAccepted (bytes : List ℕ) : Type 0 where
  pub size : is_missized bytes ≡ false
  pub version : not (field_of bytes 0 4 == 0x00010000) ≡ false
  pub kind : nat_lt 3 (lock_type_of bytes) ≡ false
  pub state : (locks_on_state bytes && not (is_name (name_length bytes 62))) ≡ false
  pub offset : not (field_of bytes 6 2 == name_offset bytes) ≡ false
  pub name : has_ill_name bytes ≡ false

-- tests of which none holds
none_holds : (size version kind state offset name many sizes : Bool) (value count : ℕ)
    → first_fault
    (fault_if size Size ∷ fault_if version Version ∷ fault_if kind (LockType value) ∷ fault_if state NameForm ∷ fault_if offset Offset
    ∷ fault_if name NameForm ∷ fault_if many (Wildcards count) ∷ fault_if sizes MinAboveMax ∷ []) ≡ None
    → (size ≡ false) × (version ≡ false) × (kind ≡ false) × (state ≡ false) × (offset ≡ false) × (name ≡ false)
none_holds true version kind state offset name many sizes value count h = cc
none_holds false true kind state offset name many sizes value count h = cc
none_holds false false true state offset name many sizes value count h = cc
none_holds false false false true offset name many sizes value count h = cc
none_holds false false false false true name many sizes value count h = cc
none_holds false false false false false true many sizes value count h = cc
none_holds false false false false false false many sizes value count h = (refl, refl, refl, refl, refl, refl)

accepted : (bytes : List ℕ) → first_fault (entry_tests bytes) ≡ None → IsAccepted bytes
unfolding entry_tests
accepted bytes none =
    let parts =
    none_holds (is_missized bytes) (not (field_of bytes 0 4 == 0x00010000)) (nat_lt 3 (lock_type_of bytes))
    (locks_on_state bytes && not (is_name (name_length bytes 62))) (not (field_of bytes 6 2 == name_offset bytes)) (has_ill_name bytes)
    (nat_lt 254 (entry_wildcards bytes)) (nat_lt (field_of bytes 28 4) (field_of bytes 24 4)) (lock_type_of bytes) (entry_wildcards bytes) none in
    record { size = parts.0; version = parts.1; kind = parts.2; state = parts.3; offset = parts.4; name = parts.5 }

-- an entry that was read was accepted, and its policy is that of its fields
pub was_read : (bytes : List ℕ) (policy : Policy) → entry_of bytes ≡ Ok policy → IsAccepted bytes × (policy ≡ policy_of bytes)
unfolding entry_of
was_read bytes policy read = by (first_fault (entry_tests bytes)) refl read
  where
    by : (found : Option EntryFault) → first_fault (entry_tests bytes) ≡ found → entry_read bytes found ≡ Ok policy
        → IsAccepted bytes × (policy ≡ policy_of bytes)
    by None none read = let same : policy_of bytes ≡ policy = cc in (accepted bytes none, sym same)
    by (Some f) none read = cc

-- a test that doesn't hold
unequal : (b : Bool) → not b ≡ false → b ≡ true
unequal true h = refl
unequal false h = cc

-- what an entry that was accepted has of its size
pub record IsSized (bytes : List ℕ) : Type 0 where
  pub least : 44 ≤ length bytes
  pub size : field_of bytes 4 2 ≡ length bytes
  pub state : locks_on_state bytes ≡ true → 62 ≤ length bytes

pub sized : (bytes : List ℕ) → is_missized bytes ≡ false → IsSized bytes
sized bytes ok =
    let outer = or_parts (nat_lt (length bytes) 44) (not (field_of bytes 4 2 == length bytes) || (locks_on_state bytes && nat_lt (length bytes) 62)) ok in
    let inner = or_parts (not (field_of bytes 4 2 == length bytes)) (locks_on_state bytes && nat_lt (length bytes) 62) outer.1 in
    record {
      least = ltb-false (length bytes) 44 outer.0;
      size = eqb-true (field_of bytes 4 2) (length bytes) (unequal (field_of bytes 4 2 == length bytes) inner.0);
      state = λ state.
          ltb-false (length bytes) 62 (sym (ap (λ (b : Bool). b && nat_lt (length bytes) 62) state) ∙ inner.1);
    }

-- a name that was accepted, and its place
named_by : (found : Option ℕ) → is_name found ≡ true → (n : ℕ) × (found ≡ Some n)
named_by None h = cc
named_by (Some n) h = (n, refl)

-- the name field as it stands
pub name_stands : (bytes : List ℕ) → Bytes bytes → (at : ℕ) (found : Option ℕ) → name_length bytes at ≡ found
    → not (ends_with_name (length (drop at bytes)) found) ≡ false → at ≡ name_offset bytes
    → name_field (entry_name bytes found) ≡ drop at bytes
name_stands bytes all at None is ends here = sym (nothing_left (drop at bytes) (eqb-true _ _ (unequal (length (drop at bytes) == 0) ends)))
  where
    nothing_left : (xs : List ℕ) → length xs ≡ 0 → xs ≡ []
    nothing_left [] h = refl
    nothing_left (x ∷ xs) h = absurd (omega (arith, h))
name_stands bytes all at (Some n) is ends here =
    let parts = and_parts (is_name_length n) (length (drop at bytes) == 2 * n + 2) (unequal _ ends) in
    let size : length (drop at bytes) ≡ 2 * n + 2 = eqb-true _ _ parts.1 in
    ap (λ k. nul_ended (take n (units_in (drop k bytes)))) (sym here)
    ∙ name_written (drop at bytes) n (bytes_from at bytes all) is
    ∙ take_all (2 * n + 2) (drop at bytes) (omega (arith, size))

-- how many are left
length_left : (n : ℕ) (xs : List ℕ) → n ≤ length xs → length (drop n xs) + n ≡ length xs
length_left n xs h = let left = length-drop n xs in omega (arith, left, h)

-- ---- the parts of an entry that was accepted

-- what follows the fixed fields
pub record StandsBehind (bytes : List ℕ) (lock : Lock) (own : List ℕ) : Type 0 where
  pub rest : lock_field lock ++ own ≡ unpadded_rest bytes
  pub within : name_offset bytes ≤ length bytes
  pub size : 44 + length (unpadded_rest bytes) ≡ length bytes
  pub kind : lock_type lock ≡ lock_type_of bytes

module _ (bytes : List ℕ) (all : Bytes bytes) (is : IsAccepted bytes) where
  -- the entry's own name
  own_stands : name_field (entry_name bytes (name_length bytes (name_offset bytes))) ≡ drop (name_offset bytes) bytes
  own_stands = name_stands bytes all (name_offset bytes) (name_length bytes (name_offset bytes)) refl is.name refl

  -- for a lock of another kind than on a variable's state
  plain_stands : (lock : Lock) → lock_field lock ≡ [] → locks_on_state bytes ≡ false → lock_type lock ≡ lock_type_of bytes
      → StandsBehind bytes lock (drop (name_offset bytes) bytes)
  plain_stands lock none other kind =
      let offset : name_offset bytes ≡ 44 = ap (λ (b : Bool). if b then state_end (name_length bytes 62) else 44) other in
      let tail : unpadded_rest bytes ≡ drop 44 bytes = ap (λ (b : Bool). if b then take 17 (drop 44 bytes) ++ 0 ∷ drop 62 bytes else drop 44 bytes) other in
      let least = (sized bytes is.size).least in
      let left : length (drop 44 bytes) + 44 ≡ length bytes = length_left 44 bytes least in
      let same : length (unpadded_rest bytes) ≡ length (drop 44 bytes) = ap (λ (t : List ℕ). length t) tail in
      record {
        rest = ap (λ (f : List ℕ). f ++ drop (name_offset bytes) bytes) none ∙ ap (λ n. drop n bytes) offset ∙ sym tail;
        within = omega (arith, offset, least);
        size = omega (arith, left, same);
        kind = kind;
      }

  -- for a lock on a variable's state
  state_stands : lock_type_of bytes ≡ 3
      → StandsBehind bytes (OnState (key_of (guid_at bytes 44) (state_units bytes)) (slice_index bytes 60)) (drop (name_offset bytes) bytes)
  state_stands kind =
      let state : locks_on_state bytes ≡ true = ap (λ k. k == 3) kind in
      let named = named_by (name_length bytes 62) (unequal _ (sym (ap (λ (b : Bool). b && not (is_name (name_length bytes 62))) state) ∙ is.state)) in
      let n : ℕ = named.0 in
      let found : name_length bytes 62 ≡ Some n = named.1 in
      let least : 62 ≤ length bytes = (sized bytes is.size).state state in
      let behind = drop 62 bytes in
      let place = position_is (units_in behind) n found in
      let units = length-units_in behind in
      let left : length behind + 62 ≡ length bytes = length_left 62 bytes least in
      let offset : name_offset bytes ≡ 62 + (2 * n + 2) =
      ap (λ (b : Bool). if b then state_end (name_length bytes 62) else 44) state ∙ ap state_end found ∙ (let e : 62 + 2 * n + 2 ≡ 62 + (2 * n + 2) = omega arith in e) in
      let field : nul_ended (state_units bytes) ≡ take (2 * n + 2) behind =
      ap (λ (f : Option ℕ). nul_ended (take (unwrap_or f 0) (units_in behind))) found ∙ name_written behind n (bytes_from 62 bytes all) found in
      let own : drop (name_offset bytes) bytes ≡ drop (2 * n + 2) behind = ap (λ k. drop k bytes) offset ∙ sym (drop-drop (2 * n + 2) 62 bytes) in
      let names : nul_ended (state_units bytes) ++ drop (name_offset bytes) bytes ≡ behind =
      ap (λ (f : List ℕ). f ++ drop (name_offset bytes) bytes) field ∙ ap (λ (f : List ℕ). take (2 * n + 2) behind ++ f) own
      ∙ take-append-drop (2 * n + 2) behind in
      let guid = take 16 (drop 44 bytes) in
      let one = slice_index bytes 60 in
      let after : length (drop 44 bytes) + 44 ≡ length bytes = length_left 44 bytes (omega (arith, least)) in
      let front : take 17 (drop 44 bytes) ≡ guid ++ one ∷ [] =
      take_more (drop 44 bytes) 16 0 (omega (arith, after, least)) ∙ ap (λ b. guid ++ b ∷ []) (get_or-drop 44 bytes 16 0) in
      let tail : unpadded_rest bytes ≡ take 17 (drop 44 bytes) ++ 0 ∷ behind = ap (λ (b : Bool). if b then take 17 (drop 44 bytes) ++ 0 ∷ behind else drop 44 bytes) state in
      let sizes : length (unpadded_rest bytes) ≡ length (take 17 (drop 44 bytes) ++ 0 ∷ behind) = ap (λ (t : List ℕ). length t) tail in
      record {
        rest =
            append_assoc (guid ++ (one ∷ 0 ∷ [])) (nul_ended (state_units bytes)) (drop (name_offset bytes) bytes)
            ∙ ap (λ (t : List ℕ). (guid ++ (one ∷ 0 ∷ [])) ++ t) names
            ∙ append_assoc guid (one ∷ 0 ∷ []) behind
            ∙ sym (append_assoc guid (one ∷ []) (0 ∷ behind))
            ∙ ap (λ (t : List ℕ). t ++ 0 ∷ behind) (sym front)
            ∙ sym tail;
        within = let within = place.1 in omega (arith, offset, within, units, left);
        size =
            omega (
              arith,
              sizes,
              length-append (take 17 (drop 44 bytes)) (0 ∷ behind),
              length-take-le 17 (drop 44 bytes) (omega (arith, after, least)),
              left,
            );
        kind = sym kind;
      }

  -- for any lock, by its kind
  stands : StandsBehind bytes (lock_of bytes (lock_type_of bytes)) (drop (name_offset bytes) bytes)
  stands = by (lock_type_of bytes) refl (ltb-false 3 (lock_type_of bytes) is.kind)
    where
      by : (k : ℕ) → lock_type_of bytes ≡ k → k ≤ 3 → StandsBehind bytes (lock_of bytes k) (drop (name_offset bytes) bytes)
      by zero kind small = plain_stands NoLock refl (ap (λ k. k == 3) kind) (sym kind)
      by (suc zero) kind small = plain_stands Now refl (ap (λ k. k == 3) kind) (sym kind)
      by (suc (suc zero)) kind small = plain_stands OnCreate refl (ap (λ k. k == 3) kind) (sym kind)
      by (suc (suc (suc zero))) kind small = state_stands kind
      by (suc (suc (suc (suc k)))) kind small = absurd (omega (arith, small))

  abbrev piece : ℕ → ℕ → List ℕ
  piece at count = take count (drop at bytes)

  -- the sizes that are written
  sizes_stand : (entry_size (policy_of bytes) ≡ length bytes) × (offset_to_name (policy_of bytes) ≡ name_offset bytes)
  unfolding policy_of
  sizes_stand =
      let lock = lock_field (lock_of bytes (lock_type_of bytes)) in
      let own = name_field (entry_name bytes (name_length bytes (name_offset bytes))) in
      let left = length_left (name_offset bytes) bytes stands.within in
      let names : length own ≡ length (drop (name_offset bytes) bytes) = ap (λ (t : List ℕ). length t) own_stands in
      let both : length (lock ++ drop (name_offset bytes) bytes) ≡ length (unpadded_rest bytes) = ap (λ (t : List ℕ). length t) stands.rest in
      let parts = length-append lock (drop (name_offset bytes) bytes) in
      let whole = stands.size in
      (omega (arith, names, both, parts, whole), omega (arith, left, both, parts, whole))

  -- the fixed fields up to the lock type
  front_stands : little_bytes 4 0x00010000 ++ little_bytes 2 (entry_size (policy_of bytes)) ++ little_bytes 2 (offset_to_name (policy_of bytes)) ++ take 16 (drop 8 bytes)
      ++ little_bytes 4 (field_of bytes 24 4) ++ little_bytes 4 (field_of bytes 28 4) ++ little_bytes 4 (field_of bytes 32 4) ++ little_bytes 4 (field_of bytes 36 4)
      ≡ take 40 bytes
  front_stands =
      let least = (sized bytes is.size).least in
      let version : little_bytes 4 0x00010000 ≡ take 4 bytes =
      ap (little_bytes 4) (sym (eqb-true (field_of bytes 0 4) 0x00010000 (unequal (field_of bytes 0 4 == 0x00010000) is.version)))
      ∙ four_again bytes (omega (arith, least)) all in
      let size : little_bytes 2 (entry_size (policy_of bytes)) ≡ take 2 (drop 4 bytes) =
      ap (little_bytes 2) (sizes_stand.0 ∙ sym (sized bytes is.size).size)
      ∙ two_again (drop 4 bytes) (enough 4 2 (omega (arith, least))) (bytes_from 4 bytes all) in
      let offset : little_bytes 2 (offset_to_name (policy_of bytes)) ≡ take 2 (drop 6 bytes) =
      ap (little_bytes 2) (sizes_stand.1 ∙ sym (eqb-true (field_of bytes 6 2) (name_offset bytes) (unequal (field_of bytes 6 2 == name_offset bytes) is.offset)))
      ∙ two_again (drop 6 bytes) (enough 6 2 (omega (arith, least))) (bytes_from 6 bytes all) in
      let four : (n : ℕ) → n + 4 ≤ 44 → little_bytes 4 (field_of bytes n 4) ≡ take 4 (drop n bytes) =
      λ n h. four_again (drop n bytes) (enough n 4 (omega (arith, least, h))) (bytes_from n bytes all) in
      (λ i. version i ++ size i ++ offset i ++ take 16 (drop 8 bytes) ++ four 24 (omega arith) i ++ four 28 (omega arith) i ++ four 32 (omega arith) i ++ four 36 (omega arith) i)
      ∙ ap (λ (xs : List ℕ). xs ++ piece 6 2 ++ piece 8 16 ++ piece 24 4 ++ piece 28 4 ++ piece 32 4 ++ piece 36 4) (joined 4 2 bytes)
      ∙ ap (λ (xs : List ℕ). xs ++ piece 8 16 ++ piece 24 4 ++ piece 28 4 ++ piece 32 4 ++ piece 36 4) (joined 6 2 bytes)
      ∙ ap (λ (xs : List ℕ). xs ++ piece 24 4 ++ piece 28 4 ++ piece 32 4 ++ piece 36 4) (joined 8 16 bytes)
      ∙ ap (λ (xs : List ℕ). xs ++ piece 28 4 ++ piece 32 4 ++ piece 36 4) (joined 24 4 bytes)
      ∙ ap (λ (xs : List ℕ). xs ++ piece 32 4 ++ piece 36 4) (joined 28 4 bytes)
      ∙ ap (λ (xs : List ℕ). xs ++ piece 36 4) (joined 32 4 bytes)
      ∙ joined 36 4 bytes
    where
      enough : (n k : ℕ) → n + k ≤ length bytes → k ≤ length (drop n bytes)
      enough n k h = let left = length-drop n bytes in omega (arith, left, h)

  -- the whole of it
  pub written : entry_bytes (policy_of bytes) ≡ unpadded bytes
  unfolding entry_bytes policy_of
  written =
      let kind = lock_type_of bytes in
      let lock = lock_of bytes kind in
      let own = name_field (entry_name bytes (name_length bytes (name_offset bytes))) in
      let padding : List ℕ = 0 ∷ 0 ∷ 0 ∷ [] in
      let least = (sized bytes is.size).least in
      let header : entry_header (policy_of bytes) ≡ take 41 bytes ++ padding =
      ap (λ (front : List ℕ). front ++ (lock_type lock ∷ padding)) front_stands ∙ ap (λ k. take 40 bytes ++ (k ∷ padding)) stands.kind
      ∙ sym (append_assoc (take 40 bytes) (kind ∷ []) padding) ∙ ap (λ (front : List ℕ). front ++ padding) (sym (take_more bytes 40 0 (omega (arith, least)))) in
      append_assoc (entry_header (policy_of bytes)) (lock_field lock) own
      ∙ (λ i. header i ++ (lock_field lock ++ own_stands i))
      ∙ ap (λ (rest : List ℕ). (take 41 bytes ++ padding) ++ rest) stands.rest
      ∙ append_assoc (take 41 bytes) padding (unpadded_rest bytes)
