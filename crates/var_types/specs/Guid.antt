use Rattle.std.specs.Prelude.{◌≡◌, ℕ, List, length, Option, Some, None, Result, Ok, Err}
use Rattle.uuid.specs.Parts.{swap_fields}
use Rattle.uuid.specs.Text.{parsed, hyphenated_text, lower}
use Rattle.var_types.specs.declared.guid.Guid.{Guid}
use Rattle.var_types.specs.declared.guid.NotAGuid.{NotAGuid}
use Rattle.var_types.specs.Values.{AreBytes}

-- a GUID has sixteen bytes
abbrev pub IsGuid : Guid → Type 0
IsGuid guid = (length guid.bytes ≡ 16) × AreBytes guid.bytes

-- the GUID whose first three fields are stored little-endian, where a text was read
abbrev pub stored_guid : Option (List ℕ) → Result Guid NotAGuid
stored_guid None = Err (record {})
stored_guid (Some bytes) = Ok (record { bytes = swap_fields bytes })

-- the GUID of a text in a form of RFC 9562, stored as UEFI does (UEFI 2.10, appendix A)
unfoldable pub guid_of : List ℕ → Result Guid NotAGuid
guid_of text = stored_guid (parsed text)

-- the 36 lower-case characters of a GUID (UEFI 2.10, appendix A)
unfoldable pub guid_text : Guid → List ℕ
guid_text guid = hyphenated_text lower (swap_fields guid.bytes)
