-- The sizes of an image, of its parts and of what stands in them; in bytes, where nothing else is said.
use Rattle.std.specs.Prelude.{ℕ}

-- an image (OVMF's variable stores of 128 KiB)
abbrev pub image_size : ℕ
image_size = 131072

-- a block, the unit of erasing (PI 1.8 volume 3, 3.2.1)
abbrev pub block_size : ℕ
block_size = 4096

-- the variable volume at the front of an image, its first 14 blocks (OVMF's variable stores of 128 KiB)
abbrev pub volume_size : ℕ
volume_size = 57344

-- the offset of the work area of fault-tolerant writes (this project's own)
abbrev pub work_area_offset : ℕ
work_area_offset = 61440

-- the work area, one block (this project's own)
abbrev pub work_area_size : ℕ
work_area_size = 4096

-- the offset of the spare (this project's own)
abbrev pub spare_offset : ℕ
spare_offset = 65536

-- the spare, the last 16 blocks of an image (this project's own)
abbrev pub spare_size : ℕ
spare_size = 65536

-- the header of a volume with one run of blocks (PI 1.8 volume 3, 3.2.1, EFI_FIRMWARE_VOLUME_HEADER)
abbrev pub volume_header_size : ℕ
volume_header_size = 72

-- the header of a store (EDK II, VARIABLE_STORE_HEADER)
abbrev pub store_header_size : ℕ
store_header_size = 28

-- the headers of volume and store; the first record of an image stands behind them
abbrev pub headers_size : ℕ
headers_size = 100

-- the volatile store, its header counted
abbrev pub volatile_size : ℕ
volatile_size = 65536

-- the most bytes that a region may have
abbrev pub longest_region : ℕ
longest_region = 65536

-- the most bytes of a record, its header and its name counted (this project's own)
abbrev pub largest_record : ℕ
largest_record = 33792

-- the most units of a well-formed name (this project's own)
abbrev pub longest_name : ℕ
longest_name = 512

-- the most units of the name of a call (this project's own)
abbrev pub most_units : ℕ
most_units = 1024
