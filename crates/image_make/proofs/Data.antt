-- The front of a buffer of equal bytes.
use Rattle.std.proofs.Common.{◌≡◌, ℕ, ◌+◌, ◌%◌, replicate, take, ap, ◌∙◌, arith}
use Rattle.std.proofs.lemmas.List.{take-replicate}
use Rattle.image_make.specs.Generated.{bytes_at}

-- so many of 200 bytes are those of a set
pub bytes_at-front : (number index count byte : ℕ) → count ≡ 1 + index % 200 → byte ≡ (index + number) % 256
    → take count (replicate 200 byte) ≡ bytes_at number index
bytes_at-front number index count byte many is =
    take-replicate count 200 byte (omega arith)
    ∙ ap (λ n. replicate n byte) many
    ∙ ap (replicate (1 + index % 200)) is
