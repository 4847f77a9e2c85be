-- Bits that are cleared, byte by byte.
use Rattle.std.proofs.Common.{◌≡◌, ℕ, zero, suc, ◌+◌, ◌%◌, ◌<◌, ◌≤◌, List, [], ◌∷◌, ◌++◌, length, get_or, set, take, refl, sym, ap, ◌∙◌, arith, add-one}
use Rattle.std.specs.Prelude.{bit_and}
use Rattle.std.proofs.lemmas.Nat.{and_mask}
use Rattle.std.proofs.lemmas.List.{length-take-le, set-get_or, take_more}
use Rattle.flash_dev.specs.MemFlash.{even_bytes}
use Rattle.flash_dev.specs.Rules.{cleared}

-- bits are cleared by one byte more
cleared_one : (olds news : List ℕ) (new : ℕ) → length news < length olds
    → cleared olds (news ++ new ∷ []) ≡ set (cleared olds news) (length news) (bit_and (get_or (cleared olds news) (length news) 0) new)
cleared_one [] news new h = absurd (omega arith)
cleared_one (old ∷ []) [] new h = refl
cleared_one (old ∷ more ∷ olds) [] new h = refl
cleared_one (old ∷ olds) (first ∷ news) new h = ap (λ rest. bit_and old first ∷ rest) (cleared_one olds news new (omega arith))

-- as many bytes are left
pub length-cleared : (olds news : List ℕ) → length (cleared olds news) ≡ length olds
length-cleared [] [] = refl
length-cleared (old ∷ olds) [] = refl
length-cleared [] (new ∷ news) = refl
length-cleared (old ∷ olds) (new ∷ news) = ap suc (length-cleared olds news)

-- the byte behind those that are cleared stays
cleared_behind : (olds news : List ℕ) → get_or (cleared olds news) (length news) 0 ≡ get_or olds (length news) 0
cleared_behind [] [] = refl
cleared_behind (old ∷ olds) [] = refl
cleared_behind [] (new ∷ news) = refl
cleared_behind (old ∷ olds) (new ∷ news) = cleared_behind olds news

-- bits are cleared by the bytes up to an index, and then by the one at it
pub cleared_more : (olds news : List ℕ) (i : ℕ) → i < length news → length news ≤ length olds
    → cleared olds (take (i + 1) news) ≡ set (cleared olds (take i news)) i (bit_and (get_or (cleared olds (take i news)) i 0) (get_or news i 0))
cleared_more olds news i h fits =
    let size : length (take i news) ≡ i = length-take-le i news (omega arith) in
    let within : length (take i news) < length olds = omega arith in
    ap (cleared olds) (take_more news i 0 h)
    ∙ cleared_one olds (take i news) (get_or news i 0) within
    ∙ ap (λ n. set (cleared olds (take i news)) n (bit_and (get_or (cleared olds (take i news)) n 0) (get_or news i 0))) size

-- 0xFF clears no bit of a byte
pub and_byte : (old : ℕ) → old < 256 → bit_and old 255 ≡ old
and_byte old h = and_mask old 8 ∙ omega arith

-- as many bytes clear bits
length-even_bytes : (bytes : List ℕ) → length (even_bytes bytes) ≡ length bytes
length-even_bytes [] = refl
length-even_bytes (byte ∷ []) = refl
length-even_bytes (byte ∷ other ∷ rest) = ap (λ n. suc (suc n)) (length-even_bytes rest)

-- one byte more, at an even index
even_more : (bytes : List ℕ) (i : ℕ) → i < length bytes → i % 2 ≡ 0 → even_bytes (take (suc i) bytes) ≡ even_bytes (take i bytes) ++ get_or bytes i 0 ∷ []
even_more [] i h even = absurd (omega arith)
even_more (byte ∷ []) zero h even = refl
even_more (byte ∷ other ∷ rest) zero h even = refl
even_more (byte ∷ rest) (suc zero) h even = absurd (omega arith)
even_more (byte ∷ []) (suc (suc i)) h even = absurd (omega arith)
even_more (byte ∷ other ∷ rest) (suc (suc i)) h even = ap (λ left. byte ∷ 255 ∷ left) (even_more rest i (omega arith) (omega arith))

-- one byte more, at an odd index
odd_more : (bytes : List ℕ) (i : ℕ) → i < length bytes → i % 2 ≡ 1 → even_bytes (take (suc i) bytes) ≡ even_bytes (take i bytes) ++ 255 ∷ []
odd_more [] i h odd = absurd (omega arith)
odd_more (byte ∷ rest) zero h odd = absurd (omega arith)
odd_more (byte ∷ []) (suc i) h odd = absurd (omega arith)
odd_more (byte ∷ other ∷ rest) (suc zero) h odd = refl
odd_more (byte ∷ other ∷ rest) (suc (suc i)) h odd = ap (λ left. byte ∷ 255 ∷ left) (odd_more rest i (omega arith) (omega arith))

-- there are as many of the bytes up to an index
length-evens : (news : List ℕ) (i : ℕ) → i < length news → length (even_bytes (take i news)) ≡ i
length-evens news i h = length-even_bytes (take i news) ∙ length-take-le i news (omega arith)

-- bits at even indices are cleared up to an even index, and then at it
pub evens_more : (olds news : List ℕ) (i : ℕ) → i < length news → length news ≤ length olds → i % 2 ≡ 0
    → cleared olds (even_bytes (take (i + 1) news))
    ≡ set (cleared olds (even_bytes (take i news))) i (bit_and (get_or (cleared olds (even_bytes (take i news))) i 0) (get_or news i 0))
evens_more olds news i h fits even =
    let size : length (even_bytes (take i news)) ≡ i = length-evens news i h in
    let within : length (even_bytes (take i news)) < length olds = omega arith in
    let evens = even_bytes (take i news) in
    ap (λ n. cleared olds (even_bytes (take n news))) (add-one i)
    ∙ ap (cleared olds) (even_more news i h even)
    ∙ cleared_one olds evens (get_or news i 0) within
    ∙ ap (λ n. set (cleared olds evens) n (bit_and (get_or (cleared olds evens) n 0) (get_or news i 0))) size

-- at an odd index nothing is cleared
pub odds_more : (olds news : List ℕ) (i : ℕ) → i < length news → length news ≤ length olds → i % 2 ≡ 1 → get_or olds i 0 < 256
    → cleared olds (even_bytes (take (i + 1) news)) ≡ cleared olds (even_bytes (take i news))
odds_more olds news i h fits odd byte =
    let size : length (even_bytes (take i news)) ≡ i = length-evens news i h in
    let within : length (even_bytes (take i news)) < length olds = omega arith in
    let evens = even_bytes (take i news) in
    let stands : get_or (cleared olds evens) i 0 ≡ get_or olds i 0 =
    ap (λ n. get_or (cleared olds evens) n 0) (sym size) ∙ cleared_behind olds evens ∙ ap (λ n. get_or olds n 0) size in
    let whole : bit_and (get_or (cleared olds evens) i 0) 255 ≡ get_or (cleared olds evens) i 0 = and_byte _ (omega arith) in
    ap (λ n. cleared olds (even_bytes (take n news))) (add-one i)
    ∙ ap (cleared olds) (odd_more news i h odd)
    ∙ cleared_one olds evens 255 within
    ∙ ap (λ n. set (cleared olds evens) n (bit_and (get_or (cleared olds evens) n 0) 255)) size
    ∙ ap (set (cleared olds evens) i) whole
    ∙ set-get_or (cleared olds evens) i 0
