use Rattle.std.proofs.Common.{ℕ, List, ◌++◌, ◌∷◌, [], take, replicate, refl}
use Rattle.byteorder.specs.Endian.{little_bytes}
use Rattle.flash_dev.proofs.Placed.{placed, placed_more}
use Rattle.flash_dev.proofs.headers.write_blocks.Goals as goal

pub returns : goal.returns
returns c =
    let olds = take 48 c.args.into.now in
    let a = little_bytes 2 72 in
    let b = a ++ little_bytes 2 63769 in
    let marks : List ℕ = 0 ∷ 0 ∷ 0 ∷ 2 ∷ [] in
    let d = b ++ marks ++ little_bytes 4 32 in
    let zeros : List ℕ = replicate 8 0 in
    let header = placed 48 50 olds a _ c.write_at.new.into c.to_le_bytes.ensures refl c.write_at.ensures in
    let sum = placed_more 50 52 olds a (little_bytes 2 63769) _ c.write_at.new.into c.write_at-2.new.into header c.to_le_bytes-2.ensures refl c.write_at-2.ensures in
    let revision = placed_more 52 56 olds b marks marks c.write_at-2.new.into c.write_at-3.new.into sum refl refl c.write_at-3.ensures in
    let count = placed_more 56 60 olds (b ++ marks) (little_bytes 4 32) _ c.write_at-3.new.into c.write_at-4.new.into revision c.to_le_bytes-3.ensures refl c.write_at-4.ensures in
    let size = placed_more 60 64 olds d (little_bytes 4 4096) _ c.write_at-4.new.into c.write_at-5.new.into count c.to_le_bytes-4.ensures refl c.write_at-5.ensures in
    placed_more 64 72 olds (d ++ little_bytes 4 4096) zeros zeros c.write_at-5.new.into c.write_at-6.new.into size refl refl c.write_at-6.ensures
