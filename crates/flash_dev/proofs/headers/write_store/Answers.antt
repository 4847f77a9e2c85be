use Rattle.std.proofs.Common.{◌≡◌, ℕ, List, ◌+◌, ◌++◌, ◌∷◌, [], length, take, refl, arith}
use Rattle.byteorder.specs.Endian.{little_bytes}
use Rattle.flash_dev.specs.Blank.{store_header}
use Rattle.flash_dev.specs.Guids.{authenticated_variable_guid}
use Rattle.flash_dev.proofs.Placed.{placed_more}
use Rattle.flash_dev.proofs.headers.write_store.Goals as goal

pub returns : goal.returns
returns c =
    let at = c.args.at in
    let olds = take at c.args.into.now in
    let guid = authenticated_variable_guid in
    let size = little_bytes 4 c.args.size in
    let marks : List ℕ = 90 ∷ 254 ∷ 0 ∷ 0 ∷ 0 ∷ 0 ∷ 0 ∷ 0 ∷ [] in
    let first : take (at + 16) c.write_at.new.into ≡ olds ++ guid = c.write_at.ensures in
    let second =
    placed_more (at + 16) (at + 20) olds guid size _ c.write_at.new.into c.write_at-2.new.into first c.to_le_bytes.ensures (omega arith)
    c.write_at-2.ensures in
    placed_more (at + 20) (at + 28) olds (guid ++ size) marks marks c.write_at-2.new.into c.write_at-3.new.into second refl (omega arith)
    c.write_at-3.ensures
