-- The blank image: the headers of an empty store, and all else erased.
use Rattle.std.specs.Prelude.{ℕ, ◌-◌, List, [], ◌∷◌, ◌++◌, codes, replicate}
use Rattle.byteorder.specs.Endian.{little_bytes}
use Rattle.flash_dev.specs.Guids.{authenticated_variable_guid, system_nv_data_guid}
use Rattle.var_types.specs.Layout.{block_size, headers_size, image_size, store_header_size, volatile_size, volume_header_size}

-- the volume's header, as far as it says what the volume is: a zero vector, the file system, the length of the image, the signature, and the
-- attributes of a volume that is read, written and erased to ones (PI 1.8 volume 3, 3.2.1; the values are OVMF's)
abbrev pub kind_of_volume : List ℕ
kind_of_volume =
    replicate 16 0 ++ system_nv_data_guid ++ little_bytes 8 image_size ++ codes "_FVH" ++ little_bytes 4 0x0004FEFF

-- the rest of it: the length of this header, the checksum, no extended header, a reserved byte, revision 2, 32 blocks and their size, and the end
-- of the map (PI 1.8 volume 3, 3.2.1)
abbrev pub blocks_of_volume : List ℕ
blocks_of_volume =
    little_bytes 2 volume_header_size
    ++ little_bytes 2 0xF919
    ++ (0 ∷ 0 ∷ 0 ∷ 2 ∷ [])
    ++ little_bytes 4 32
    ++ little_bytes 4 block_size
    ++ replicate 8 0

-- the header of a store of so many bytes: authenticated records, its size, formatted, healthy, and reserved bytes (EDK II, VARIABLE_STORE_HEADER)
abbrev pub store_header : ℕ → List ℕ
store_header size = authenticated_variable_guid ++ little_bytes 4 size ++ (0x5A ∷ 0xFE ∷ 0 ∷ 0 ∷ 0 ∷ 0 ∷ 0 ∷ 0 ∷ [])

-- the headers of an image without variables
unfoldable pub blank_headers : List ℕ
blank_headers = kind_of_volume ++ blocks_of_volume ++ store_header 0xDFB8

-- the image without variables: its headers, and 0xFF behind them
unfoldable pub blank_image : List ℕ
blank_image = blank_headers ++ replicate (image_size - headers_size) 0xFF

-- the volatile store without variables: its header, and 0xFF behind it (EDK II, VARIABLE_STORE_HEADER)
unfoldable pub blank_volatile : List ℕ
blank_volatile = store_header volatile_size ++ replicate (volatile_size - store_header_size) 0xFF
