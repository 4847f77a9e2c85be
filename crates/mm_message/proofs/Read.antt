-- The spelling of a message is read as the message.
use Rattle.std.proofs.Common.{◌≡◌, ℕ, ◌+◌, ◌*◌, ◌%◌, ◌<◌, ◌≤◌, Bool, true, false, List, [], ◌∷◌, ◌++◌, length, take, drop, get_or, Some, None, refl, sym, ap, ◌∙◌, arith, length-append}
use Rattle.std.proofs.lemmas.Bool.{and_from, eq-eqb, le-leb, le-ltb}
use Rattle.std.proofs.lemmas.List.{drop-drop, drop_at, get_or-drop, take_at}
use Rattle.std.proofs.lemmas.List.Elements.{recursion_from_All}
use Rattle.std.specs.Prelude.{◌==◌, ◌&&◌, ◌||◌, if◌then◌else◌, nat_le, nat_lt, slice_index}
use Rattle.byteorder.specs.Endian.{little_bytes, little_number}
use Rattle.byteorder.specs.Numbers.{little_number-reads_back}
use Rattle.mm_message.specs.declared.message_fault.MessageFault.TheVariants.{Kind, Length, Processor}
use Rattle.mm_message.specs.declared.taken.Taken.TheVariants.{Fault, More, Request}
use Rattle.mm_message.specs.Messages.{call_in, formed, get_call, get_in, is_find, is_missized, is_name, is_set, left_by, message_in, next_call, next_in, other_in, place_in, set_call, set_in, set_units, size_in, taken_in, verdict_of}
use Rattle.mm_message.specs.Spellings.{Fits, FitsCall, FitsFind, FitsSet, body_of, find_body, name_bytes, set_body, size_of, spelling, verdict_byte}
use Rattle.mm_message.proofs.Numbers.{length-name_bytes, units_read}
use Rattle.var_types.specs.declared.call.Call.{Call}
use Rattle.var_types.specs.declared.call.Call.TheVariants.{Get, Next, Set, Policy, ExitBoot}
use Rattle.var_types.specs.declared.call.GetCall.{GetCall}
use Rattle.var_types.specs.declared.call.NextCall.{NextCall}
use Rattle.var_types.specs.declared.call.SetCall.{SetCall}
use Rattle.var_types.specs.declared.guid.Guid.{Guid}
use Rattle.var_types.specs.declared.policy_call.PolicyCall.TheVariants.{Register, Lock, Disable, Enabled, At}
use Rattle.var_types.specs.declared.verdict.Verdict.{Verdict}
use Rattle.var_types.specs.declared.verdict.Verdict.TheVariants.{Good, Bad}
use Rattle.var_types.specs.Descriptor.{field_of}
use Rattle.var_types.specs.Live.{units_in}
use Rattle.var_types.specs.PolicyEntry.{guid_at}

-- ---- the bodies of calls

-- what is read of the body of a get or a next
pub record IsFindRead (body : List ℕ) (guid : Guid) (room : ℕ) (name : List ℕ) : Type 0 where
  pub form : is_find body ≡ true
  pub guid_is : guid_at body 0 ≡ guid
  pub room_is : field_of body 16 4 ≡ room
  pub name_is : units_in (drop 20 body) ≡ name

find_read : (guid : Guid) (room : ℕ) (name : List ℕ) → FitsFind guid room name → IsFindRead (find_body guid room name) guid room name
find_read guid room name fits =
    let rest = little_bytes 4 room ++ name_bytes name in
    let body = find_body guid room name in
    let sixteen : length guid.bytes ≡ 16 = fits.guid_is.0 in
    let few = fits.few in
    let at_16 : drop 16 body ≡ rest = drop_at guid.bytes rest 16 sixteen in
    let at_20 : drop 20 body ≡ name_bytes name = sym (drop-drop 4 16 body) ∙ ap (drop 4) at_16 in
    let double = length-name_bytes name in
    let long : length (drop 20 body) ≡ length (name_bytes name) = ap (λ (xs : List ℕ). length xs) at_20 in
    let whole : 20 ≤ length body = omega (arith, sixteen, length-append guid.bytes rest, length-append (little_bytes 4 room) (name_bytes name)) in
    record {
      form =
          and_from (nat_le 20 (length body)) (is_name (drop 20 body)) (le-leb 20 (length body) whole)
          (and_from (length (drop 20 body) % 2 == 0) (nat_le (length (drop 20 body)) 2048)
          (eq-eqb (length (drop 20 body) % 2) 0 (omega (arith, long, double)))
          (le-leb (length (drop 20 body)) 2048 (omega (arith, long, double, few))));
      guid_is = ap (λ (xs : List ℕ). record { bytes = xs }) (take_at guid.bytes rest 16 sixteen);
      room_is = ap (little_number 4) at_16 ∙ little_number-reads_back 4 room (name_bytes name) fits.room_is;
      name_is = ap units_in at_20 ∙ units_read name (recursion_from_All (λ u. u < 65536) name fits.units);
    }

get_read : (c : GetCall) → FitsFind c.guid c.room c.name → get_in (find_body c.guid c.room c.name) ≡ Some (Get c)
unfolding get_in get_call
get_read c fits =
    let body = find_body c.guid c.room c.name in
    let read = find_read c.guid c.room c.name fits in
    ap (λ (b : Bool). if b then Some (Get (get_call body)) else None) read.form
    ∙ (λ i. Some (Get (record { guid = read.guid_is i; name = read.name_is i; room = read.room_is i })))

next_read : (c : NextCall) → FitsFind c.guid c.room c.name → next_in (find_body c.guid c.room c.name) ≡ Some (Next c)
unfolding next_in next_call
next_read c fits =
    let body = find_body c.guid c.room c.name in
    let read = find_read c.guid c.room c.name fits in
    ap (λ (b : Bool). if b then Some (Next (next_call body)) else None) read.form
    ∙ (λ i. Some (Next (record { guid = read.guid_is i; name = read.name_is i; room = read.room_is i })))

verdict_read : (v : Verdict) → verdict_of (verdict_byte v) ≡ v
verdict_read Good = refl
verdict_read Bad = refl

verdict_small : (v : Verdict) → verdict_byte v ≤ 1
verdict_small Good = omega arith
verdict_small Bad = omega arith

-- what is read of the body of a set
pub record IsSetRead (body : List ℕ) (c : SetCall) : Type 0 where
  pub form : is_set body ≡ true
  pub same : set_call body ≡ c

set_body_read : (c : SetCall) → FitsSet c → IsSetRead (set_body c) c
unfolding set_call
set_body_read c fits =
    let n = length c.name in
    let name = name_bytes c.name in
    let from_23 = name ++ c.bytes in
    let from_21 = little_bytes 2 n ++ from_23 in
    let from_20 = verdict_byte c.verdict ∷ from_21 in
    let from_16 = little_bytes 4 c.attributes ++ from_20 in
    let body = set_body c in
    let sixteen : length c.guid.bytes ≡ 16 = fits.guid_is.0 in
    let few = fits.few in
    let double = length-name_bytes c.name in
    let at_16 : drop 16 body ≡ from_16 = drop_at c.guid.bytes from_16 16 sixteen in
    let at_20 : drop 20 body ≡ from_20 = sym (drop-drop 4 16 body) ∙ ap (drop 4) at_16 in
    let at_21 : drop 21 body ≡ from_21 = sym (drop-drop 1 20 body) ∙ ap (drop 1) at_20 in
    let at_23 : drop 23 body ≡ from_23 = sym (drop-drop 2 21 body) ∙ ap (drop 2) at_21 in
    let count : set_units body ≡ n = ap (little_number 2) at_21 ∙ little_number-reads_back 2 n from_23 (omega (arith, few)) in
    let verdict : slice_index body 20 ≡ verdict_byte c.verdict = sym (get_or-drop 20 body 0 0) ∙ ap (λ (xs : List ℕ). get_or xs 0 0) at_20 in
    let known = verdict_small c.verdict in
    let long : length body ≡ 23 + 2 * n + length c.bytes =
    omega (
      arith,
      sixteen,
      double,
      length-append c.guid.bytes from_16,
      length-append (little_bytes 4 c.attributes) from_20,
      length-append (little_bytes 2 n) from_23,
      length-append name c.bytes,
    ) in
    let named : take (2 * set_units body) (drop 23 body) ≡ name = (λ i. take (2 * count i) (at_23 i)) ∙ take_at name c.bytes (2 * n) double in
    let behind : drop (23 + 2 * set_units body) body ≡ c.bytes =
    ap (λ k. drop (23 + 2 * k) body) count ∙ sym (drop-drop (2 * n) 23 body) ∙ ap (drop (2 * n)) at_23 ∙ drop_at name c.bytes (2 * n) double in
    let guid : guid_at body 0 ≡ c.guid = ap (λ (xs : List ℕ). record { bytes = xs }) (take_at c.guid.bytes from_16 16 sixteen) in
    let units : units_in (take (2 * set_units body) (drop 23 body)) ≡ c.name = ap units_in named ∙ units_read c.name (recursion_from_All (λ u. u < 65536) c.name fits.units) in
    let attributes : field_of body 16 4 ≡ c.attributes = ap (little_number 4) at_16 ∙ little_number-reads_back 4 c.attributes from_20 fits.attributes_are in
    let judged : verdict_of (slice_index body 20) ≡ c.verdict = ap verdict_of verdict ∙ verdict_read c.verdict in
    record {
      form =
          and_from (nat_le 23 (length body) && nat_le (slice_index body 20) 1 && nat_le (set_units body) 1024)
          (nat_le (23 + 2 * set_units body) (length body))
          (and_from (nat_le 23 (length body) && nat_le (slice_index body 20) 1) (nat_le (set_units body) 1024)
          (and_from (nat_le 23 (length body)) (nat_le (slice_index body 20) 1) (le-leb 23 (length body) (omega (arith, long)))
          (le-leb (slice_index body 20) 1 (omega (arith, verdict, known))))
          (le-leb (set_units body) 1024 (omega (arith, count, few))))
          (le-leb (23 + 2 * set_units body) (length body) (omega (arith, count, long)));
      same = λ i. record { guid = guid i; name = units i; attributes = attributes i; bytes = behind i; verdict = judged i };
    }

set_read : (c : SetCall) → FitsSet c → set_in (set_body c) ≡ Some (Set c)
unfolding set_in
set_read c fits =
    let read = set_body_read c fits in
    ap (λ (b : Bool). if b then Some (Set (set_call (set_body c))) else None) read.form ∙ ap (λ (d : SetCall). Some (Set d)) read.same

place_read : (place : ℕ) → place < 4294967296 → place_in (little_bytes 4 place) ≡ Some (Policy (At place))
unfolding place_in
place_read place small = ap (λ n. Some (Policy (At n))) (little_number-reads_back 4 place [] small)

-- ---- messages

-- a message of a known processor and kind
known : (p kind : ℕ) (body : List ℕ) (call : Call) → p ≤ 7 → nat_lt 8 kind ≡ false → call_in kind body ≡ Some call
    → message_in (p ∷ kind ∷ body) ≡ Request p call
unfolding message_in
known p kind body call low high read =
    let form = formed p kind (call_in kind body) in
    ap (λ (b : Bool). if b then Fault (Processor p) else if nat_lt 8 kind then Fault (Kind kind) else form) (le-ltb 7 p low)
    ∙ ap (λ (b : Bool). if b then Fault (Kind kind) else form) high ∙ ap (formed p kind) read

message_read : (p : ℕ) (call : Call) → p ≤ 7 → FitsCall call → message_in (p ∷ body_of call) ≡ Request p call
unfolding call_in other_in
message_read p (Get c) low fits = known p 0 (find_body c.guid c.room c.name) (Get c) low refl (get_read c fits)
message_read p (Next c) low fits = known p 1 (find_body c.guid c.room c.name) (Next c) low refl (next_read c fits)
message_read p (Set c) low fits = known p 2 (set_body c) (Set c) low refl (set_read c fits)
message_read p (Policy (Register entry)) low fits = known p 3 entry (Policy (Register entry)) low refl refl
message_read p (Policy Lock) low fits = known p 4 [] (Policy Lock) low refl refl
message_read p (Policy Disable) low fits = known p 5 [] (Policy Disable) low refl refl
message_read p (Policy Enabled) low fits = known p 6 [] (Policy Enabled) low refl refl
message_read p (Policy (At place)) low fits = known p 7 (little_bytes 4 place) (Policy (At place)) low refl (place_read place fits)
message_read p ExitBoot low fits = known p 8 [] ExitBoot low refl refl

-- a kind stands before each body
some_body : (call : Call) → 1 ≤ length (body_of call)
some_body (Get c) = omega arith
some_body (Next c) = omega arith
some_body (Set c) = omega arith
some_body (Policy (Register entry)) = omega arith
some_body (Policy Lock) = omega arith
some_body (Policy Disable) = omega arith
some_body (Policy Enabled) = omega arith
some_body (Policy (At place)) = omega arith
some_body ExitBoot = omega arith

-- what is read of a spelling with more behind it
pub record IsReadBack (bytes : List ℕ) (p : ℕ) (call : Call) (rest : List ℕ) : Type 0 where
  pub taken : taken_in bytes ≡ Request p call
  pub behind : left_by (Request p call) bytes ≡ rest

pub read_back : (p : ℕ) (call : Call) (rest : List ℕ) → Fits p call → IsReadBack (spelling p call ++ rest) p call rest
unfolding taken_in spelling
read_back p call rest fits =
    let n = size_of call in
    let message = p ∷ body_of call in
    let bytes = spelling p call ++ rest in
    let some = some_body call in
    let most = fits.size in
    let long : length message ≡ n = omega arith in
    let size : size_in bytes ≡ n = little_number-reads_back 4 n (message ++ rest) (omega (arith, most)) in
    let whole : length bytes ≡ 4 + n + length rest = omega (arith, length-append message rest, long) in
    let read = message_in (take (size_in bytes) (drop 4 bytes)) in
    let missized : is_missized (size_in bytes) ≡ false =
    (λ i. le-ltb (size_in bytes) 2 (omega (arith, size, some)) i || le-ltb 65536 (size_in bytes) (omega (arith, size, most)) i) in
    record {
      taken =
          ap (λ (b : Bool).
          if b then More
          else if is_missized (size_in bytes) then Fault (Length (size_in bytes))
          else if nat_lt (length bytes) (4 + size_in bytes) then More
          else read) (le-ltb (length bytes) 4 (omega (arith, whole)))
          ∙ ap (λ (b : Bool).
          if b then Fault (Length (size_in bytes))
          else if nat_lt (length bytes) (4 + size_in bytes) then More
          else read) missized
          ∙ ap (λ (b : Bool). if b then More else read) (le-ltb (length bytes) (4 + size_in bytes) (omega (arith, size, whole)))
          ∙ ap (λ k. message_in (take k (message ++ rest))) size
          ∙ ap message_in (take_at message rest n long)
          ∙ message_read p call fits.processor_is fits.call_is;
      behind = ap (λ k. drop (4 + k) bytes) size ∙ sym (drop-drop n 4 bytes) ∙ drop_at message rest n long;
    }
