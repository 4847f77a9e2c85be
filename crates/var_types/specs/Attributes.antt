use Rattle.std.specs.Prelude.{ℕ, Bool, not, ◌==◌, ◌||◌, bit_and, if◌then◌else◌}
use Rattle.var_types.specs.declared.store.Store.{Store}
use Rattle.var_types.specs.declared.store.Store.TheVariants.{NonVolatile, Volatile}

-- the attribute bits, as the standard numbers them (UEFI 2.10, 8.2)
abbrev pub non_volatile_bit : ℕ
non_volatile_bit = 0x01

abbrev pub boot_access_bit : ℕ
boot_access_bit = 0x02

abbrev pub runtime_access_bit : ℕ
runtime_access_bit = 0x04

abbrev pub time_based_bit : ℕ
time_based_bit = 0x20

abbrev pub append_bit : ℕ
append_bit = 0x40

-- the bits of writes that this service doesn't do: of hardware error records, of the authenticated writes that the standard deprecates,
-- and of enhanced authenticated ones (UEFI 2.10, 8.2; 0x08, 0x10 and 0x80)
abbrev pub unsupported_bits : ℕ
unsupported_bits = 0x98

-- the bits of a variable that only such an authenticated write may change (UEFI 2.10, 8.2; 0x10 and 0x80)
abbrev pub authenticated_bits : ℕ
authenticated_bits = 0x90

-- the bits that no attribute has (UEFI 2.10, 8.2)
abbrev pub unknown_bits : ℕ
unknown_bits = 0xFFFFFF00

-- whether attributes have a bit, or one of several (UEFI 2.10, 8.2)
abbrev pub has : ℕ → ℕ → Bool
has attributes bits = not (bit_and attributes bits == 0)

-- whether attributes have an access bit; a set without one deletes (UEFI 2.10, 8.2.3)
abbrev pub has_access : ℕ → Bool
has_access attributes = has attributes boot_access_bit || has attributes runtime_access_bit

-- whether a set is time-based: its bytes begin with a descriptor (UEFI 2.10, 8.2)
abbrev pub is_time_based : ℕ → Bool
is_time_based attributes = has attributes time_based_bit

-- whether a set appends (UEFI 2.10, 8.2.3)
abbrev pub is_append : ℕ → Bool
is_append attributes = has attributes append_bit

-- the attributes that a set leaves, which are without the bit of an append (UEFI 2.10, 8.2.3)
abbrev pub without_append : ℕ → ℕ
without_append attributes = bit_and attributes 0xFFFFFFBF

-- the store of a variable with these attributes (UEFI 2.10, 8.2)
abbrev pub store_of : ℕ → Store
store_of attributes = if has attributes non_volatile_bit then NonVolatile else Volatile
