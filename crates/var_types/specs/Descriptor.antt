-- The descriptor that stands before the data of a time-based set.
use Rattle.byteorder.specs.Endian.{little_number}
use Rattle.std.specs.Option.{option_map}
use Rattle.std.specs.Prelude.{ℕ, ◌+◌, ◌==◌, ◌&&◌, not, Bool, List, [], ◌∷◌, length, take, drop, find, nat_le, Option, Some, None, Result, Ok, Err}
use Rattle.var_types.specs.declared.descriptor.Descriptor.{Descriptor}
use Rattle.var_types.specs.declared.descriptor.DescriptorFault.{DescriptorFault}
use lib.Pointwise.{pointwise}

-- whether a field of this size stands whole in bytes at an offset
abbrev pub is_whole : List ℕ → ℕ → ℕ → Bool
is_whole bytes at size = nat_le (at + size) (length bytes)

-- the number of a field, the lowest byte first
abbrev pub field_of : List ℕ → ℕ → ℕ → ℕ
field_of bytes at size = little_number size (drop at bytes)

-- whether a field stands whole and is this number
abbrev pub holds : List ℕ → ℕ → ℕ → ℕ → Bool
holds bytes at size value = is_whole bytes at size && (field_of bytes at size == value)

-- the GUID of a certificate type in the order in which it is stored: 4aafd29d-68df-49ee-8aa9-347d375665a7 (UEFI 2.10, 8.2,
-- EFI_CERT_TYPE_PKCS7_GUID)
abbrev pub pkcs7_bytes : List ℕ
pkcs7_bytes =
    0x9D ∷ 0xD2 ∷ 0xAF ∷ 0x4A ∷ 0xDF ∷ 0x68 ∷ 0xEE ∷ 0x49 ∷ 0x8A ∷ 0xA9 ∷ 0x34 ∷ 0x7D ∷ 0x37 ∷ 0x56 ∷ 0x65 ∷ 0xA7 ∷ []

-- the bytes of a whole descriptor: the time stamp's 16, and dwLength more (UEFI 2.10, 8.2, EFI_VARIABLE_AUTHENTICATION_2; 32.2.4, WIN_CERTIFICATE)
abbrev pub descriptor_size : List ℕ → ℕ
descriptor_size bytes = 16 + field_of bytes 16 4

-- the fields of a descriptor in the order in which they are tried, each with its offset and whether it stands whole and has a value that it
-- may have: Year, Month, Day, Hour, Minute, Second, Pad1, Nanosecond, TimeZone, Daylight, Pad2; dwLength, wRevision, wCertificateType
-- 0x0EF1, CertType (UEFI 2.10, 8.2, EFI_VARIABLE_AUTHENTICATION_2; 8.3, EFI_TIME; 32.2.4, WIN_CERTIFICATE_UEFI_GUID; that the time's first
-- six numbers may be any is this project's own)
unfoldable pub descriptor_fields : List ℕ → List (ℕ × Bool)
descriptor_fields bytes =
    (0, is_whole bytes 0 2)
    ∷ (2, is_whole bytes 2 1)
    ∷ (3, is_whole bytes 3 1)
    ∷ (4, is_whole bytes 4 1)
    ∷ (5, is_whole bytes 5 1)
    ∷ (6, is_whole bytes 6 1)
    ∷ (7, holds bytes 7 1 0)
    ∷ (8, holds bytes 8 4 0)
    ∷ (12, holds bytes 12 2 0)
    ∷ (14, holds bytes 14 1 0)
    ∷ (15, holds bytes 15 1 0)
    ∷ (16, is_whole bytes 16 4 && nat_le 24 (field_of bytes 16 4) && nat_le (descriptor_size bytes) (length bytes))
    ∷ (20, is_whole bytes 20 2)
    ∷ (22, holds bytes 22 2 0x0EF1)
    ∷ (24, pointwise ◌==◌ (take 16 (drop 24 bytes)) pkcs7_bytes)
    ∷ []

-- the offset of the first field that is broken
abbrev pub first_broken : List (ℕ × Bool) → Option ℕ
first_broken fields = option_map (λ (field : ℕ × Bool). field.0) (find (λ (field : ℕ × Bool). not field.1) fields)

-- the descriptor of bytes whose first broken field is known: none is, so the time stamp is the first 16 bytes
abbrev pub descriptor_read : List ℕ → Option ℕ → Result Descriptor DescriptorFault
descriptor_read bytes None = Ok (record { stamp = record { bytes = take 16 bytes }; length = descriptor_size bytes })
descriptor_read bytes (Some at) = Err (record { at = at })

-- the descriptor that bytes begin with, or the offset of its first broken field (UEFI 2.10, 8.2, EFI_VARIABLE_AUTHENTICATION_2)
unfoldable pub descriptor_of : List ℕ → Result Descriptor DescriptorFault
descriptor_of bytes = descriptor_read bytes (first_broken (descriptor_fields bytes))
