-- How many bytes the bodies of messages have.
use Rattle.std.proofs.Common.{◌≡◌, ℕ, ◌+◌, List, ◌∷◌, ◌++◌, length, arith, length-append}
use Rattle.byteorder.specs.Endian.{little_bytes}
use Rattle.mm_message.specs.Spellings.{find_body, name_bytes, set_body, verdict_byte}
use Rattle.var_types.specs.declared.call.SetCall.{SetCall}
use Rattle.var_types.specs.declared.guid.Guid.{Guid}

pub find_size : (guid : Guid) (room : ℕ) (name : List ℕ) → length (find_body guid room name) ≡ length guid.bytes + 4 + length (name_bytes name)
find_size guid room name =
    omega (arith, length-append guid.bytes (little_bytes 4 room ++ name_bytes name), length-append (little_bytes 4 room) (name_bytes name))

pub set_size : (c : SetCall) → length (set_body c) ≡ length c.guid.bytes + 7 + length (name_bytes c.name) + length c.bytes
set_size c =
    let from_21 = little_bytes 2 (length c.name) ++ (name_bytes c.name ++ c.bytes) in
    omega (
      arith,
      length-append c.guid.bytes (little_bytes 4 c.attributes ++ (verdict_byte c.verdict ∷ from_21)),
      length-append (little_bytes 4 c.attributes) (verdict_byte c.verdict ∷ from_21),
      length-append (little_bytes 2 (length c.name)) (name_bytes c.name ++ c.bytes),
      length-append (name_bytes c.name) c.bytes,
    )
