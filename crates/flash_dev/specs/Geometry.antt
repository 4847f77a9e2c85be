-- What the headers at the front of an image must hold: the volume's (PI 1.8 volume 3, 3.2.1, EFI_FIRMWARE_VOLUME_HEADER) and the store's
-- (EDK II, VARIABLE_STORE_HEADER).
use Rattle.std.specs.Prelude.{ℕ, ◌+◌, ◌*◌, ◌/◌, ◌%◌, ◌==◌, ◌&&◌, Bool, false, List, [], ◌∷◌, length, take, drop, codes, slice_index, nat_le, if◌then◌else◌, Result, Ok, Err}
use Rattle.std.specs.List.{list_all}
use Rattle.byteorder.specs.Endian.{little_number}
use Rattle.flash_dev.specs.declared.geometry.Geometry.{Geometry}
use Rattle.flash_dev.specs.declared.image_fault.ImageFault.{ImageFault}
use Rattle.flash_dev.specs.declared.image_fault.ImageFault.TheVariants.{BadSum, BlockSize, ImageSize, NotAStore, NotAVolume}
use Rattle.flash_dev.specs.Guids.{authenticated_variable_guid, system_nv_data_guid}
use Rattle.var_types.specs.Layout.{block_size, headers_size, image_size, volume_header_size, volume_size}
use lib.Pointwise.{pointwise}

-- the bytes of a field at an offset, and the number that they are, low byte first
abbrev pub bytes_at : ℕ → ℕ → List ℕ → List ℕ
bytes_at at size bytes = take size (drop at bytes)

abbrev pub number_at : ℕ → ℕ → List ℕ → ℕ
number_at at size bytes = little_number size (drop at bytes)

-- whether bytes are these
abbrev pub are : List ℕ → List ℕ → Bool
are = pointwise ◌==◌

-- a condition is tried: where it fails this is the refusal, else what follows decides
abbrev pub tried : Bool → ImageFault → Result (Unit {0}) ImageFault → Result (Unit {0}) ImageFault
tried holds fault rest = if holds then rest else Err fault

-- whether a volume may have so many bytes: whole blocks, at least those of the variables, at most those of an image
abbrev pub is_volume_length : ℕ → Bool
is_volume_length len = (len % block_size == 0) && nat_le volume_size len && nat_le len image_size

-- the sum of 16-bit numbers, low byte first; a last odd byte is none
abbrev pub sum_of_words : List ℕ → ℕ
sum_of_words [] = 0
sum_of_words (low ∷ []) = 0
sum_of_words (low ∷ high ∷ rest) = (low + 256 * high) + sum_of_words rest

-- the sum of a volume header, which its checksum brings to 0
abbrev pub header_sum : List ℕ → ℕ
header_sum first = sum_of_words (take volume_header_size first) % 65536

-- the fields that say what the volume is, in order: its file system, its length, its signature, and the length of its header
unfoldable pub volume_check : List ℕ → Result (Unit {0}) ImageFault
volume_check first =
    tried (are (bytes_at 16 16 first) system_nv_data_guid) (NotAVolume 16)
    (tried (is_volume_length (number_at 32 8 first)) (NotAVolume 32)
    (tried (are (bytes_at 40 4 first) (codes "_FVH")) (NotAVolume 40)
    (tried (number_at 48 2 first == volume_header_size) (NotAVolume 48) (Ok tt))))

-- the map of its blocks: one run, of as many blocks as it has, and the end of the map
unfoldable pub blocks_check : List ℕ → Result (Unit {0}) ImageFault
blocks_check first =
    tried (number_at 60 4 first == block_size) (BlockSize (number_at 60 4 first))
    (tried (number_at 56 4 first == number_at 32 8 first / block_size) (NotAVolume 56)
    (tried (list_all (λ b. b == 0) (bytes_at 64 8 first)) (NotAVolume 64) (Ok tt)))

-- the checksum
unfoldable pub sum_check : List ℕ → Result (Unit {0}) ImageFault
sum_check first = tried (header_sum first == 0) (BadSum (header_sum first)) (Ok tt)

-- the store behind the volume's header, in order: of authenticated records, of all bytes that the volume has for it, formatted, and healthy
unfoldable pub store_check : List ℕ → Result (Unit {0}) ImageFault
store_check first =
    tried (are (bytes_at 72 16 first) authenticated_variable_guid) (NotAStore 72)
    (tried (number_at 88 4 first == 0xDFB8) (NotAStore 88)
    (tried (slice_index first 92 == 0x5A) (NotAStore 92)
    (tried (slice_index first 93 == 0xFE) (NotAStore 93) (Ok tt))))

-- one check and then another
abbrev pub both_checks : Result (Unit {0}) ImageFault → Result (Unit {0}) ImageFault → Result (Unit {0}) ImageFault
both_checks (Ok u) rest = rest
both_checks (Err fault) rest = Err fault

abbrev pub checked_geometry : Result (Unit {0}) ImageFault → Result Geometry ImageFault
checked_geometry (Ok u) = Ok (record { plain = false })
checked_geometry (Err fault) = Err fault

-- the geometry of an image with these headers, or the first refusal
unfoldable pub geometry_of : List ℕ → Result Geometry ImageFault
geometry_of first =
    checked_geometry (both_checks (volume_check first) (both_checks (blocks_check first) (both_checks (sum_check first) (store_check first))))

-- the geometry of an image, or the first refusal, that of its length before all others
unfoldable pub image_geometry : List ℕ → Result Geometry ImageFault
image_geometry image =
    if length image == image_size then geometry_of (take headers_size image) else Err (ImageSize (length image) image_size)
