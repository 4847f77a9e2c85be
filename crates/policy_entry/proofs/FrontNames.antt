-- A name at the front of bytes.
use denote.Ref.{Bor}
use Rattle.std.proofs.Common.{◌≡◌, ℕ, ◌+◌, ◌*◌, ◌≤◌, true, cond, List, length, take, drop, Option, Some, None, sym, ap, ◌∙◌, subst, arith}
use Rattle.std.proofs.lemmas.Bool.{and_parts, leb-true}
use Rattle.std.proofs.lemmas.List.{length-drop, length-take-le}
use Rattle.std.specs.Prelude.{◌==◌, IfSome, nat_le, position, unwrap_or}
use Rattle.policy_entry.specs.Entry.{IsFrontName, IsLockName}
use Rattle.policy_entry.proofs.Units.{length-units_in, units_in-take}
use Rattle.var_types.specs.Live.{units_in}
use Rattle.var_types.specs.PolicyEntry.{entry_header_size, is_name, is_name_length, locks_on_state, name_length, name_offset, state_end, state_header_size}

-- the units of the first bytes, two for each
length-taken : (count : ℕ) (bytes : List ℕ) → 2 * count + 2 ≤ length bytes → length (units_in (take (2 * count) bytes)) ≡ count
length-taken count bytes within =
    let units = length-units_in (take (2 * count) bytes) in
    let size = length-take-le (2 * count) bytes (omega (arith, within)) in
    omega (arith, units, size)

-- the bytes before the first NUL are a name, where the units before it are 1 to 512
pub front_is : (count : ℕ) (bytes : List ℕ) → position (λ unit. unit == 0) (units_in bytes) ≡ Some count → is_name_length count ≡ true
    → 2 * count + 2 ≤ length bytes → IsFrontName bytes (take (2 * count) bytes)
front_is count bytes found well within =
    let units : length (units_in (take (2 * count) bytes)) ≡ count = length-taken count bytes within in
    let size : length (take (2 * count) bytes) ≡ 2 * count = length-take-le (2 * count) bytes (omega (arith, within)) in
    record {
      found = found ∙ ap Some (sym units);
      units = units_in-take count bytes ∙ ap (λ n. take n (units_in bytes)) (sym units);
      size = size ∙ ap (λ n. 2 * n) (sym units);
      well_formed = ap is_name_length units ∙ well;
      within = omega (arith, size, within);
    }

-- the name of the variable whose state locks
pub lock_name : (bytes name : List ℕ) → state_header_size ≤ length bytes → locks_on_state bytes ≡ true → IsFrontName (drop state_header_size bytes) name
    → IsLockName bytes name
lock_name bytes name whole state is =
    let count : ℕ = length (units_in name) in
    let well = and_parts (nat_le 1 count) (nat_le count 512) is.well_formed in
    let offset : name_offset bytes ≡ state_end (Some count) =
    ap (λ b. cond b (state_end (name_length bytes state_header_size)) entry_header_size) state ∙ ap state_end is.found in
    let rest = length-drop 62 bytes in
    record {
      named = ap is_name is.found ∙ is.well_formed;
      state = record {
        units = λ _. is.units ∙ ap (λ found. take (unwrap_or found 0) (units_in (drop 62 bytes))) (sym is.found);
        fits = leb-true count 512 well.1;
      };
      at = omega (arith, is.size, offset);
      within = omega (arith, is.within, rest, whole);
    }

-- where one is found in the bytes behind the fixed fields
pub lock_name_in : (bytes rest : List ℕ) (found : Option (Bor (List ℕ))) → rest ≡ drop state_header_size bytes → state_header_size ≤ length bytes
    → locks_on_state bytes ≡ true → IfSome found (λ name. IsFrontName rest name.now) → IfSome found (λ name. IsLockName bytes name.now)
lock_name_in bytes rest None is whole state h = tt
lock_name_in bytes rest (Some name) is whole state h =
    lock_name bytes name.now whole state (subst (λ (r : List ℕ). IsFrontName r name.now) is h)
