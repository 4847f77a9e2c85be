-- Bytes that are programmed over erased ones.
use Rattle.std.proofs.Common.{◌≡◌, ℕ, ◌+◌, ◌<◌, true, List, [], ◌∷◌, ◌++◌, length, replicate, nat_lt, refl, sym, ap, ◌∙◌}
use Rattle.std.specs.Prelude.{bit_and}
use Rattle.std.specs.List.{list_all}
use Rattle.std.proofs.lemmas.Bool.{and_parts, ltb-true}
use Rattle.std.proofs.lemmas.List.{replicate-append-replicate}
use Rattle.std.proofs.lemmas.Nat.{and_comm}
use Rattle.flash_dev.specs.Blank.{blank_headers, blank_image}
use Rattle.var_types.specs.Layout.{image_size}
use Rattle.flash_dev.specs.Rules.{cleared, programmed}
use Rattle.flash_dev.proofs.Blanks.{length-blank_headers}
use Rattle.flash_dev.proofs.Cleared.{and_byte}

-- an erased byte takes any other
fresh_byte : (byte : ℕ) → byte < 256 → bit_and 255 byte ≡ byte
fresh_byte byte h = and_comm 255 byte ∙ and_byte byte h

-- erased bytes at the front take any others, and those behind stay
pub fresh_front : (bytes rest : List ℕ) → list_all (λ b. nat_lt b 256) bytes ≡ true → cleared (replicate (length bytes) 255 ++ rest) bytes ≡ bytes ++ rest
fresh_front [] rest all = refl
fresh_front (byte ∷ bytes) rest all =
    let parts = and_parts (nat_lt byte 256) (list_all (λ b. nat_lt b 256) bytes) all in
    ap (λ b. b ∷ cleared (replicate (length bytes) 255 ++ rest) bytes) (fresh_byte byte (ltb-true byte 256 parts.0))
    ∙ ap (λ list. byte ∷ list) (fresh_front bytes rest parts.1)

-- bytes stand in erased ones as they are programmed
fresh_bytes : (n m : ℕ) (bytes : List ℕ) → list_all (λ b. nat_lt b 256) bytes ≡ true → length bytes + m ≡ n
    → cleared (replicate n 255) bytes ≡ bytes ++ replicate m 255
fresh_bytes n m bytes all size =
    ap (λ k. cleared (replicate k 255) bytes) (sym size)
    ∙ ap (λ list. cleared list bytes) (sym (replicate-append-replicate (length bytes) m 255))
    ∙ fresh_front bytes (replicate m 255) all

-- each of the blank image's headers is of bytes below 256
headers_bytes : list_all (λ b. nat_lt b 256) blank_headers ≡ true
unfolding blank_headers
headers_bytes = refl

-- the headers over erased bytes are the blank image
blank_fresh : cleared (replicate image_size 255) blank_headers ≡ blank_image
unfolding blank_image
blank_fresh = fresh_bytes image_size 130972 blank_headers headers_bytes (ap (λ n. n + 130972) length-blank_headers)

-- an erased image in which the headers are programmed is the blank image
pub programmed_blank : (headers image left : List ℕ) → headers ≡ blank_headers → image ≡ replicate image_size 255 → left ≡ programmed 0 headers image
    → left ≡ blank_image
programmed_blank headers image left same erased is = is ∙ ap (λ list. cleared list headers) erased ∙ ap (cleared (replicate image_size 255)) same ∙ blank_fresh
