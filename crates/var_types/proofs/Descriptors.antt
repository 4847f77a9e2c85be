-- What the fields of a descriptor say of its length.
use Rattle.std.proofs.Common.{◌≡◌, ℕ, zero, suc, ◌+◌, ◌≤◌, Bool, true, false, List, [], ◌∷◌, length, Option, Some, None, refl, ap, subst, arith}
use Rattle.std.proofs.lemmas.Bool.{leb-true}
use Rattle.std.specs.Prelude.{slice_get, Result, Ok, Err, nat_le, ◌&&◌}
use Rattle.var_types.specs.Descriptor.{descriptor_fields, descriptor_of, descriptor_read, descriptor_size, field_of, first_broken, is_whole}
use Rattle.var_types.specs.declared.descriptor.Descriptor.{Descriptor}
use Rattle.var_types.specs.declared.descriptor.DescriptorFault.{DescriptorFault}

-- where no field is broken, each is right
pub all_right : (fields : List (ℕ × Bool)) (place : ℕ) (at : ℕ) (right : Bool) → first_broken fields ≡ None
    → slice_get fields place ≡ Some (at, right) → right ≡ true
all_right [] place at right none there = cc
all_right ((a, true) ∷ fields) zero at right none there =
    let same : (at, right) ≡ (a, true) = cc in ap (λ (field : ℕ × Bool). field.1) same
all_right ((a, true) ∷ fields) (suc place) at right none there = all_right fields place at right none there
all_right ((a, false) ∷ fields) place at right none there = cc

-- the parts of a test of three
three : (a b c : Bool) → (a && b && c) ≡ true → (b ≡ true) × (c ≡ true)
three true true true h = (refl, refl)
three false b c h = cc
three true false c h = cc
three true true false h = cc

-- a dwLength that is right, and the whole length
sizes : (n len : ℕ) → nat_le 24 n ≡ true → nat_le (16 + n) len ≡ true → (40 ≤ 16 + n) × (16 + n ≤ len)
sizes n len least most =
    let at_least : 24 ≤ n = leb-true 24 n least in
    let at_most : 16 + n ≤ len = leb-true (16 + n) len most in
    (omega arith, at_most)

-- the fields are right, so the whole descriptor is there, and it has 40 bytes at least
pub least_length : (bytes : List ℕ) → first_broken (descriptor_fields bytes) ≡ None
    → (40 ≤ descriptor_size bytes) × (descriptor_size bytes ≤ length bytes)
unfolding descriptor_fields
least_length bytes none =
    let right = all_right (descriptor_fields bytes) 11 16 _ none refl in
    let parts = three (is_whole bytes 16 4) (nat_le 24 (field_of bytes 16 4)) (nat_le (descriptor_size bytes) (length bytes)) right in
    sizes (field_of bytes 16 4) (length bytes) parts.0 parts.1

-- the length of a descriptor that was read
abbrev length_read : Result Descriptor DescriptorFault → ℕ
length_read (Ok descriptor) = descriptor.length
length_read (Err fault) = 0

-- the length of a descriptor that is read from bytes with this first broken field
within_read : (bytes : List ℕ) (descriptor : Descriptor) (broken : Option ℕ) → first_broken (descriptor_fields bytes) ≡ broken
    → descriptor_read bytes broken ≡ Ok descriptor → descriptor.length ≤ length bytes
within_read bytes descriptor None none read =
    let P : ℕ → Type 0 = λ n. n ≤ length bytes in subst P (ap length_read read) (least_length bytes none).1
within_read bytes descriptor (Some at) broken read = cc

-- a descriptor that is read is no longer than the bytes
pub within : (bytes : List ℕ) (descriptor : Descriptor) → descriptor_of bytes ≡ Ok descriptor → descriptor.length ≤ length bytes
unfolding descriptor_of
within bytes descriptor read = within_read bytes descriptor (first_broken (descriptor_fields bytes)) refl read
