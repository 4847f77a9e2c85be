-- What is read of bytes has these bytes as its spelling, and fits.
use Rattle.std.proofs.Common.{◌≡◌, ℕ, zero, suc, ◌+◌, ◌*◌, ◌%◌, ◌<◌, ◌≤◌, Bool, true, false, List, [], ◌∷◌, ◌++◌, length, take, drop, Option, Some, None, refl, sym, ap, ◌∙◌, subst, arith, append_assoc}
use Rattle.std.proofs.lemmas.Bool.{and_parts, eqb-true, leb-true, ltb-false, or_parts}
use Rattle.std.proofs.lemmas.List.{drop-drop, get_or-drop, length-drop, length-take-le, take-append-drop, take_all}
use Rattle.std.proofs.lemmas.List.Elements.{All-from_recursion}
use Rattle.std.specs.Prelude.{◌==◌, ◌&&◌, if◌then◌else◌, nat_le, nat_lt, slice_index}
use Rattle.byteorder.specs.Endian.{little_bytes, little_number}
use Rattle.mm_message.specs.declared.message_fault.MessageFault.{MessageFault}
use Rattle.mm_message.specs.declared.message_fault.MessageFault.TheVariants.{Kind, Length, Processor}
use Rattle.mm_message.specs.declared.taken.Taken.{Taken}
use Rattle.mm_message.specs.declared.taken.Taken.TheVariants.{Fault, More, Request}
use Rattle.mm_message.specs.Messages.{alone, call_in, formed, get_call, get_in, is_find, is_missized, is_name, is_set, message_in, next_call, next_in, other_in, place_in, set_call, set_in, set_units, size_in, taken_in, verdict_of}
use Rattle.mm_message.specs.Spellings.{Fits, FitsCall, FitsFind, FitsSet, body_of, find_body, name_bytes, set_body, size_of, spelling, verdict_byte}
use Rattle.mm_message.proofs.Numbers.{Bytes, Bytes-drop, Bytes-take, Units, are_units, length-units, number_back, number_small, units_back}
use Rattle.var_types.specs.declared.call.Call.{Call}
use Rattle.var_types.specs.declared.call.Call.TheVariants.{Get, Next, Set, Policy, ExitBoot}
use Rattle.var_types.specs.declared.policy_call.PolicyCall.TheVariants.{Register, Lock, Disable, Enabled, At}
use Rattle.var_types.specs.Descriptor.{field_of}
use Rattle.var_types.specs.Guid.{IsGuid}
use Rattle.var_types.specs.Live.{units_in}
use Rattle.var_types.specs.PolicyEntry.{guid_at}

-- what is made where a test holds
made : (b : Bool) (this call : Call) → (if b then Some this else None) ≡ Some call → (b ≡ true) × (this ≡ call)
made true this call read = let same : this ≡ call = cc in (refl, same)
made false this call read = cc

-- how many are left
left : (n : ℕ) (xs : List ℕ) → n ≤ length xs → length (drop n xs) + n ≡ length xs
left n xs h = let size = length-drop n xs in omega (arith, size, h)

-- ---- the parts of bodies

-- what a name's bytes have
pub record IsNamed (bytes : List ℕ) : Type 0 where
  pub again : name_bytes (units_in bytes) ≡ bytes
  pub units : Units (units_in bytes)
  pub few : length (units_in bytes) ≤ 1024
  pub double : 2 * length (units_in bytes) ≡ length bytes

named : (bytes : List ℕ) → Bytes bytes → length bytes % 2 ≡ 0 → length bytes ≤ 2048 → IsNamed bytes
named bytes all even short =
    let size = length-units bytes even in
    record { again = units_back bytes all even; units = are_units bytes all; few = omega (arith, size, short); double = size }

-- the GUID at the front
front_guid : (body : List ℕ) → Bytes body → 16 ≤ length body → IsGuid (guid_at body 0)
front_guid body all whole = (length-take-le 16 body whole, All-from_recursion (λ b. b < 256) (take 16 body) (Bytes-take 16 body all))

-- a field of four bytes that begins at 16, and what is behind it
field_back : (body : List ℕ) → Bytes body → 20 ≤ length body → take 16 body ++ (little_bytes 4 (field_of body 16 4) ++ drop 20 body) ≡ body
field_back body all whole =
    let size = left 16 body (omega (arith, whole)) in
    let number : little_bytes 4 (field_of body 16 4) ≡ take 4 (drop 16 body) =
    number_back 4 (drop 16 body) (omega (arith, size, whole)) (Bytes-drop 16 body all) in
    let rest : drop 20 body ≡ drop 4 (drop 16 body) = sym (drop-drop 4 16 body) in
    (λ i. take 16 body ++ (number i ++ rest i)) ∙ ap (λ (xs : List ℕ). take 16 body ++ xs) (take-append-drop 4 (drop 16 body)) ∙ take-append-drop 16 body

field_small : (body : List ℕ) → Bytes body → field_of body 16 4 < 4294967296
field_small body all = number_small 4 (drop 16 body) (Bytes-drop 16 body all)

-- ---- the bodies of calls, by kind

-- what was read of a body
pub record IsSpelled (kind : ℕ) (body : List ℕ) (call : Call) : Type 0 where
  pub same : body_of call ≡ kind ∷ body
  pub fits : FitsCall call

-- the body of a get or a next
pub record IsFindBody (body : List ℕ) : Type 0 where
  pub same : find_body (guid_at body 0) (field_of body 16 4) (units_in (drop 20 body)) ≡ body
  pub fits : FitsFind (guid_at body 0) (field_of body 16 4) (units_in (drop 20 body))

find_back : (body : List ℕ) → Bytes body → is_find body ≡ true → IsFindBody body
find_back body all is =
    let parts = and_parts (nat_le 20 (length body)) (is_name (drop 20 body)) is in
    let name = drop 20 body in
    let whole = leb-true 20 (length body) parts.0 in
    let tests = and_parts (length name % 2 == 0) (nat_le (length name) 2048) parts.1 in
    let is_named = named name (Bytes-drop 20 body all) (eqb-true (length name % 2) 0 tests.0) (leb-true (length name) 2048 tests.1) in
    record {
      same = ap (λ (xs : List ℕ). take 16 body ++ (little_bytes 4 (field_of body 16 4) ++ xs)) is_named.again ∙ field_back body all whole;
      fits = record {
        guid_is = front_guid body all (omega (arith, whole));
        room_is = field_small body all;
        units = All-from_recursion (λ u. u < 65536) (units_in name) is_named.units;
        few = is_named.few;
      };
    }

get_spelled : (body : List ℕ) (call : Call) → Bytes body → get_in body ≡ Some call → IsSpelled 0 body call
unfolding get_in get_call
get_spelled body call all read =
    let is = made (is_find body) (Get (get_call body)) call read in
    let back = find_back body all is.0 in
    subst (IsSpelled 0 body) is.1 (record { same = ap (λ (xs : List ℕ). 0 ∷ xs) back.same; fits = back.fits })

next_spelled : (body : List ℕ) (call : Call) → Bytes body → next_in body ≡ Some call → IsSpelled 1 body call
unfolding next_in next_call
next_spelled body call all read =
    let is = made (is_find body) (Next (next_call body)) call read in
    let back = find_back body all is.0 in
    subst (IsSpelled 1 body) is.1 (record { same = ap (λ (xs : List ℕ). 1 ∷ xs) back.same; fits = back.fits })

-- the byte of a verdict that was read
verdict_back : (byte : ℕ) → byte ≤ 1 → verdict_byte (verdict_of byte) ≡ byte
verdict_back zero known = refl
verdict_back (suc zero) known = refl
verdict_back (suc (suc byte)) known = absurd (omega (arith, known))

-- the first byte, and those behind it
first_byte : (xs : List ℕ) → 1 ≤ length xs → slice_index xs 0 ∷ drop 1 xs ≡ xs
first_byte [] whole = absurd (omega (arith, whole))
first_byte (x ∷ xs) whole = refl

-- what a set's body has
pub record IsSetBody (body : List ℕ) : Type 0 where
  pub whole : 23 ≤ length body
  pub known : slice_index body 20 ≤ 1
  pub few : set_units body ≤ 1024
  pub within : 23 + 2 * set_units body ≤ length body

set_parts : (body : List ℕ) → is_set body ≡ true → IsSetBody body
set_parts body is =
    let n = set_units body in
    let last = and_parts (nat_le 23 (length body) && nat_le (slice_index body 20) 1 && nat_le n 1024) (nat_le (23 + 2 * n) (length body)) is in
    let third = and_parts (nat_le 23 (length body) && nat_le (slice_index body 20) 1) (nat_le n 1024) last.0 in
    let first = and_parts (nat_le 23 (length body)) (nat_le (slice_index body 20) 1) third.0 in
    record {
      whole = leb-true 23 (length body) first.0;
      known = leb-true (slice_index body 20) 1 first.1;
      few = leb-true n 1024 third.1;
      within = leb-true (23 + 2 * n) (length body) last.1;
    }

-- the body of a set
pub record IsSetBack (body : List ℕ) : Type 0 where
  pub same : set_body (set_call body) ≡ body
  pub fits : FitsSet (set_call body)

set_back : (body : List ℕ) → Bytes body → is_set body ≡ true → IsSetBack body
unfolding set_call
set_back body all is =
    let n = set_units body in
    let parts = set_parts body is in
    let whole = parts.whole in
    let few = parts.few in
    let within = parts.within in
    let field = field_of body 16 4 in
    let payload = drop (23 + 2 * n) body in
    let name = take (2 * n) (drop 23 body) in
    let from_21 = left 21 body (omega (arith, whole)) in
    let from_23 = left 23 body whole in
    let size : length name ≡ 2 * n = length-take-le (2 * n) (drop 23 body) (omega (arith, from_23, within)) in
    let is_named = named name (Bytes-take (2 * n) (drop 23 body) (Bytes-drop 23 body all)) (omega (arith, size)) (omega (arith, size, few)) in
    let double = is_named.double in
    let units : length (units_in name) ≡ n = omega (arith, double, size) in
    let verdict : verdict_byte (verdict_of (slice_index body 20)) ≡ slice_index body 20 = verdict_back (slice_index body 20) parts.known in
    let count : little_bytes 2 (length (units_in name)) ≡ take 2 (drop 21 body) =
    ap (little_bytes 2) units ∙ number_back 2 (drop 21 body) (omega (arith, from_21, whole)) (Bytes-drop 21 body all) in
    let behind : name ++ payload ≡ drop 23 body = ap (λ (xs : List ℕ). name ++ xs) (sym (drop-drop (2 * n) 23 body)) ∙ take-append-drop (2 * n) (drop 23 body) in
    let two : take 2 (drop 21 body) ++ drop 23 body ≡ drop 21 body =
    ap (λ (xs : List ℕ). take 2 (drop 21 body) ++ xs) (sym (drop-drop 2 21 body)) ∙ take-append-drop 2 (drop 21 body) in
    let one : slice_index body 20 ∷ drop 21 body ≡ drop 20 body =
    (λ i. sym (get_or-drop 20 body 0 0) i ∷ sym (drop-drop 1 20 body) i) ∙ first_byte (drop 20 body) (let size = left 20 body (omega (arith, whole)) in omega (arith, size, whole)) in
    record {
      same =
          (λ i. take 16 body ++ (little_bytes 4 field ++ (verdict i ∷ (count i ++ (is_named.again i ++ payload)))))
          ∙ ap (λ (xs : List ℕ). take 16 body ++ (little_bytes 4 field ++ (slice_index body 20 ∷ (take 2 (drop 21 body) ++ xs)))) behind
          ∙ ap (λ (xs : List ℕ). take 16 body ++ (little_bytes 4 field ++ (slice_index body 20 ∷ xs))) two
          ∙ ap (λ (xs : List ℕ). take 16 body ++ (little_bytes 4 field ++ xs)) one
          ∙ field_back body all (omega (arith, whole));
      fits = record {
        guid_is = front_guid body all (omega (arith, whole));
        attributes_are = field_small body all;
        units = All-from_recursion (λ u. u < 65536) (units_in name) is_named.units;
        few = is_named.few;
        bytes_are = All-from_recursion (λ b. b < 256) payload (Bytes-drop (23 + 2 * n) body all);
      };
    }

set_spelled : (body : List ℕ) (call : Call) → Bytes body → set_in body ≡ Some call → IsSpelled 2 body call
unfolding set_in
set_spelled body call all read =
    let is = made (is_set body) (Set (set_call body)) call read in
    let back = set_back body all is.0 in
    subst (IsSpelled 2 body) is.1 (record { same = ap (λ (xs : List ℕ). 2 ∷ xs) back.same; fits = back.fits })

-- no byte
empty : (xs : List ℕ) → (length xs == 0) ≡ true → xs ≡ []
empty [] h = refl
empty (x ∷ xs) h = let none = eqb-true (length (x ∷ xs)) 0 h in absurd (omega (arith, none))

alone_spelled : (kind : ℕ) (this call : Call) (body : List ℕ) → body_of this ≡ kind ∷ [] → FitsCall this → alone this body ≡ Some call → IsSpelled kind body call
alone_spelled kind this call body same fits read =
    let is = made (length body == 0) this call read in
    subst (IsSpelled kind body) is.1 (record { same = same ∙ ap (λ (xs : List ℕ). kind ∷ xs) (sym (empty body is.0)); fits = fits })

place_spelled : (body : List ℕ) (call : Call) → Bytes body → place_in body ≡ Some call → IsSpelled 7 body call
unfolding place_in
place_spelled body call all read =
    let is = made (length body == 4) (Policy (At (little_number 4 body))) call read in
    let size : length body ≡ 4 = eqb-true (length body) 4 is.0 in
    subst (IsSpelled 7 body) is.1 (record {
      same = ap (λ (xs : List ℕ). 7 ∷ xs) (number_back 4 body (omega (arith, size)) all ∙ take_all 4 body (omega (arith, size)));
      fits = number_small 4 body all;
    })

call_spelled : (kind : ℕ) (body : List ℕ) (call : Call) → kind ≤ 8 → Bytes body → call_in kind body ≡ Some call → IsSpelled kind body call
unfolding call_in other_in
call_spelled zero body call known all read = get_spelled body call all read
call_spelled (suc zero) body call known all read = next_spelled body call all read
call_spelled (suc (suc zero)) body call known all read = set_spelled body call all read
call_spelled (suc (suc (suc zero))) body call known all read =
    let is : Policy (Register body) ≡ call = cc in
    subst (IsSpelled 3 body) is (record { same = refl; fits = All-from_recursion (λ b. b < 256) body all })
call_spelled (suc (suc (suc (suc zero)))) body call known all read = alone_spelled 4 (Policy Lock) call body refl tt read
call_spelled (suc (suc (suc (suc (suc zero))))) body call known all read = alone_spelled 5 (Policy Disable) call body refl tt read
call_spelled (suc (suc (suc (suc (suc (suc zero)))))) body call known all read = alone_spelled 6 (Policy Enabled) call body refl tt read
call_spelled (suc (suc (suc (suc (suc (suc (suc zero))))))) body call known all read = place_spelled body call all read
call_spelled (suc (suc (suc (suc (suc (suc (suc (suc zero)))))))) body call known all read = alone_spelled 8 ExitBoot call body refl tt read
call_spelled (suc (suc (suc (suc (suc (suc (suc (suc (suc kind))))))))) body call known all read = absurd (omega (arith, known))

-- ---- messages

-- no fault of two was found
faultless : (b c : Bool) (f g : MessageFault) (t : Taken) (p : ℕ) (call : Call) → (if b then Fault f else if c then Fault g else t) ≡ Request p call
    → (b ≡ false) × (c ≡ false) × (t ≡ Request p call)
faultless true c f g t p call read = cc
faultless false true f g t p call read = cc
faultless false false f g t p call read = (refl, refl, read)

-- a body was of its form
was_formed : (x y : ℕ) (found : Option Call) (p : ℕ) (call : Call) → formed x y found ≡ Request p call → (x ≡ p) × (found ≡ Some call)
was_formed x y None p call read = cc
was_formed x y (Some c) p call read =
    let same : x ≡ p = cc in
    let is : c ≡ call = cc in
    (same, ap (λ (d : Call). Some d) is)

-- a whole message that was read
pub record IsMessage (message : List ℕ) (p : ℕ) (call : Call) : Type 0 where
  pub same : p ∷ body_of call ≡ message
  pub processor_is : p ≤ 7
  pub fits : FitsCall call

message_spelled : (message : List ℕ) (p : ℕ) (call : Call) → 2 ≤ length message → Bytes message → message_in message ≡ Request p call → IsMessage message p call
unfolding message_in
message_spelled [] p call whole all read = absurd (omega (arith, whole))
message_spelled (x ∷ []) p call whole all read = absurd (omega (arith, whole))
message_spelled (x ∷ y ∷ body) p call whole all read =
    let none = faultless (nat_lt 7 x) (nat_lt 8 y) (Processor x) (Kind y) (formed x y (call_in y body)) p call read in
    let was = was_formed x y (call_in y body) p call none.2 in
    let is = call_spelled y body call (ltb-false 8 y none.1) all.1.1 was.1 in
    let low = ltb-false 7 x none.0 in
    record {
      same = (λ i. sym was.0 i ∷ is.same i);
      processor_is = subst (λ n. n ≤ 7) was.0 low;
      fits = is.fits;
    }

-- what is whole at the front of bytes
pub record IsFront (bytes : List ℕ) (p : ℕ) (call : Call) : Type 0 where
  pub length_is : 4 ≤ length bytes
  pub least : 2 ≤ size_in bytes
  pub most : size_in bytes ≤ 65536
  pub whole : 4 + size_in bytes ≤ length bytes
  pub message : message_in (take (size_in bytes) (drop 4 bytes)) ≡ Request p call

front_parts : (short missized cut : Bool) (f : MessageFault) (t : Taken) (p : ℕ) (call : Call)
    → (if short then More else if missized then Fault f else if cut then More else t) ≡ Request p call
    → (short ≡ false) × (missized ≡ false) × (cut ≡ false) × (t ≡ Request p call)
front_parts true missized cut f t p call read = cc
front_parts false true cut f t p call read = cc
front_parts false false true f t p call read = cc
front_parts false false false f t p call read = (refl, refl, refl, read)

pub front_is : (bytes : List ℕ) (p : ℕ) (call : Call) → taken_in bytes ≡ Request p call → IsFront bytes p call
unfolding taken_in
front_is bytes p call read =
    let n = size_in bytes in
    let parts =
    front_parts (nat_lt (length bytes) 4) (is_missized n) (nat_lt (length bytes) (4 + n)) (Length n) (message_in (take n (drop 4 bytes))) p call read in
    let bounds = or_parts (nat_lt n 2) (nat_lt 65536 n) parts.1 in
    record {
      length_is = ltb-false (length bytes) 4 parts.0;
      least = ltb-false n 2 bounds.0;
      most = ltb-false 65536 n bounds.1;
      whole = ltb-false (length bytes) (4 + n) parts.2;
      message = parts.3;
    }

-- a request that was taken: the bytes begin with its spelling, and it fits
pub record IsTakenOff (bytes : List ℕ) (p : ℕ) (call : Call) : Type 0 where
  pub same : spelling p call ++ drop (4 + size_in bytes) bytes ≡ bytes
  pub fits : Fits p call

pub taken_spelled : (bytes : List ℕ) (p : ℕ) (call : Call) → Bytes bytes → taken_in bytes ≡ Request p call → IsTakenOff bytes p call
unfolding spelling
taken_spelled bytes p call all read =
    let n = size_in bytes in
    let front = front_is bytes p call read in
    let message = take n (drop 4 bytes) in
    let least = front.least in
    let whole = front.whole in
    let most = front.most in
    let behind = left 4 bytes front.length_is in
    let size : length message ≡ n = length-take-le n (drop 4 bytes) (omega (arith, behind, whole)) in
    let is = message_spelled message p call (omega (arith, size, least)) (Bytes-take n (drop 4 bytes) (Bytes-drop 4 bytes all)) front.message in
    let long : length (p ∷ body_of call) ≡ length message = ap (λ (xs : List ℕ). length xs) is.same in
    let sized : size_of call ≡ n = omega (arith, long, size) in
    let number : little_bytes 4 (size_of call) ≡ take 4 bytes = ap (little_bytes 4) sized ∙ number_back 4 bytes front.length_is all in
    let rest : drop (4 + n) bytes ≡ drop n (drop 4 bytes) = sym (drop-drop n 4 bytes) in
    record {
      same =
          append_assoc (little_bytes 4 (size_of call)) (p ∷ body_of call) (drop (4 + n) bytes)
          ∙ (λ i. number i ++ (is.same i ++ rest i))
          ∙ ap (λ (xs : List ℕ). take 4 bytes ++ xs) (take-append-drop n (drop 4 bytes))
          ∙ take-append-drop 4 bytes;
      fits = record { processor_is = is.processor_is; call_is = is.fits; size = omega (arith, sized, most) };
    }
