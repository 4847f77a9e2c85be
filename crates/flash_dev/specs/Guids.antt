-- The GUIDs in the headers of an image, as they are stored.
use Rattle.std.specs.Prelude.{ℕ, List, [], ◌∷◌}

-- a file system that holds variables, fff12b8d-7696-4c8b-a985-2747075b4f50 (EDK II, gEfiSystemNvDataFvGuid)
abbrev pub system_nv_data_guid : List ℕ
system_nv_data_guid =
    0x8d ∷ 0x2b ∷ 0xf1 ∷ 0xff ∷ 0x96 ∷ 0x76 ∷ 0x8b ∷ 0x4c ∷ 0xa9 ∷ 0x85 ∷ 0x27 ∷ 0x47 ∷ 0x07 ∷ 0x5b ∷ 0x4f ∷ 0x50 ∷ []

-- a store of authenticated variables, aaf32c78-947b-439a-a180-2e144ec37792 (EDK II, gEfiAuthenticatedVariableGuid)
abbrev pub authenticated_variable_guid : List ℕ
authenticated_variable_guid =
    0x78 ∷ 0x2c ∷ 0xf3 ∷ 0xaa ∷ 0x7b ∷ 0x94 ∷ 0x9a ∷ 0x43 ∷ 0xa1 ∷ 0x80 ∷ 0x2e ∷ 0x14 ∷ 0x4e ∷ 0xc3 ∷ 0x77 ∷ 0x92 ∷ []
