-- How many bytes the parts of an entry have.
use Rattle.std.proofs.Common.{◌≡◌, ℕ, ◌+◌, ◌*◌, List, [], ◌∷◌, ◌++◌, length, take, refl, sym, ap, ◌∙◌, arith, length-append}
use Rattle.std.proofs.lemmas.List.{take_all}
use Rattle.std.specs.Prelude.{flat_map}
use Rattle.byteorder.specs.Endian.{little_bytes}
use Rattle.byteorder.specs.Numbers.{length-bytes_low_first}
use Rattle.var_types.specs.PolicyEntry.{entry_header, entry_size, lock_field, lock_type, nul_ended, offset_to_name}
use Rattle.var_types.specs.declared.key.Key.{Key}
use Rattle.var_types.specs.declared.policy.Lock.TheVariants.{OnState}
use Rattle.var_types.specs.declared.policy.Policy.{Policy}

-- two bytes for each unit
pub length-units : (units : List ℕ) → length (flat_map (little_bytes 2) units) ≡ 2 * length units
length-units [] = refl
length-units (unit ∷ units) =
    omega (arith, length-append (little_bytes 2 unit) (flat_map (little_bytes 2) units), length-bytes_low_first 0 2 unit, length-units units)

-- a name with its NUL
pub nul_ended_size : (units : List ℕ) → length (nul_ended units) ≡ 2 * length units + 2
nul_ended_size units = omega (arith, length-append (flat_map (little_bytes 2) units) (0 ∷ 0 ∷ []), length-units units)

-- a lock on a variable's state
pub state_field_size : (key : Key) (value : ℕ) → length (lock_field (OnState key value)) ≡ length key.guid.bytes + 2 + length (nul_ended key.name)
state_field_size key value =
    omega (arith, length-append (key.guid.bytes ++ (value ∷ 0 ∷ [])) (nul_ended key.name), length-append key.guid.bytes (value ∷ 0 ∷ []))

-- fixed fields that were written in two parts
pub header_is : (policy : Policy) (front whole : List ℕ) → length whole ≡ 44
    → take 24 front ≡ little_bytes 4 0x00010000 ++ little_bytes 2 (entry_size policy) ++ little_bytes 2 (offset_to_name policy) ++ policy.namespace.bytes
    → take 44 whole
    ≡ take 24 front ++ little_bytes 4 policy.min ++ little_bytes 4 policy.max ++ little_bytes 4 policy.must ++ little_bytes 4 policy.cant
    ++ (lock_type policy.lock ∷ 0 ∷ 0 ∷ 0 ∷ [])
    → whole ≡ entry_header policy
header_is policy front whole size first second =
    sym (take_all 44 whole (omega (arith, size))) ∙ second
    ∙ ap (λ (t : List ℕ). t ++ little_bytes 4 policy.min ++ little_bytes 4 policy.max ++ little_bytes 4 policy.must ++ little_bytes 4 policy.cant
    ++ (lock_type policy.lock ∷ 0 ∷ 0 ∷ 0 ∷ [])) first
