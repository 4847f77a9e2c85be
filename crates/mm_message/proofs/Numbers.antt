-- Numbers and names as bytes, both ways.
use Rattle.std.proofs.Common.{◌≡◌, ℕ, zero, suc, ◌+◌, ◌*◌, ◌/◌, ◌%◌, ◌^◌, ◌<◌, ◌≤◌, List, [], ◌∷◌, ◌++◌, length, take, drop, refl, sym, ap, ◌∙◌, arith}
use Rattle.std.proofs.Math.Nat.{div-div-eq-div-mul, pow-succ'}
use Rattle.std.specs.Int.{byte_at, bytes_low_first}
use Rattle.std.specs.List.{AllByRecursion}
use Rattle.std.specs.Prelude.{slice_index}
use Rattle.byteorder.specs.Endian.{little_bytes, little_number}
use Rattle.byteorder.specs.Numbers.{little_from-cons, little_from-lt}
use Rattle.mm_message.specs.Spellings.{name_bytes}
use Rattle.var_types.specs.Live.{units_in}

-- all are bytes
abbrev pub Bytes : List ℕ → Type 0
Bytes xs = AllByRecursion (λ b. b < 256) xs

-- all are units of a name
abbrev pub Units : List ℕ → Type 0
Units xs = AllByRecursion (λ u. u < 65536) xs

-- those behind the first ones
pub Bytes-drop : (n : ℕ) (xs : List ℕ) → Bytes xs → Bytes (drop n xs)
Bytes-drop zero xs all = all
Bytes-drop (suc n) [] all = tt
Bytes-drop (suc n) (x ∷ xs) all = Bytes-drop n xs all.1

-- the first ones
pub Bytes-take : (n : ℕ) (xs : List ℕ) → Bytes xs → Bytes (take n xs)
Bytes-take zero xs all = tt
Bytes-take (suc n) [] all = tt
Bytes-take (suc n) (x ∷ xs) all = (all.0, Bytes-take n xs all.1)

-- some behind others
pub Bytes-append : (xs ys : List ℕ) → Bytes xs → Bytes ys → Bytes (xs ++ ys)
Bytes-append [] ys all more = more
Bytes-append (x ∷ xs) ys all more = (all.0, Bytes-append xs ys all.1 more)

-- one of them
Bytes-at : (k : ℕ) (xs : List ℕ) → Bytes xs → slice_index xs k < 256
Bytes-at k [] all = omega arith
Bytes-at zero (x ∷ xs) all = all.0
Bytes-at (suc k) (x ∷ xs) all = Bytes-at k xs all.1

-- a number of n bytes
pub number_small : (n : ℕ) (xs : List ℕ) → Bytes xs → little_number n xs < 256 ^ n
number_small n xs all = little_from-lt 0 n xs (λ k. Bytes-at k xs all)

-- a byte but the lowest is one of the number without the lowest
next_byte : (i x : ℕ) → byte_at (suc i) x ≡ byte_at i (x / 256)
next_byte zero x = refl
next_byte (suc i) x =
    ap (λ p. x / p % 256) (pow-succ' 256 (suc i)) ∙ ap (λ q. q % 256) (sym (div-div-eq-div-mul x 256 (256 ^ suc i)))

-- the bytes from the second on are those of the number without its lowest
shifted : (n i x : ℕ) → bytes_low_first (suc i) n x ≡ bytes_low_first i n (x / 256)
shifted zero i x = refl
shifted (suc n) i x = λ j. next_byte i x j ∷ shifted n (suc i) x j

-- the bytes of the number in bytes
pub number_back : (n : ℕ) (xs : List ℕ) → n ≤ length xs → Bytes xs → little_bytes n (little_number n xs) ≡ take n xs
number_back zero xs h all = refl
number_back (suc n) [] h all = absurd (omega (arith, h))
number_back (suc n) (x ∷ xs) h all =
    let small : x < 256 = all.0 in
    let rest : ℕ = little_number n xs in
    let cut : little_number (suc n) (x ∷ xs) ≡ x + 256 * rest = ap (λ y. x + 256 * y) (little_from-cons 0 n x xs) in
    let low : (x + 256 * rest) % 256 ≡ x = omega (arith, small) in
    let high : (x + 256 * rest) / 256 ≡ rest = omega (arith, small) in
    let more : bytes_low_first 1 n (x + 256 * rest) ≡ take n xs =
    shifted n 0 (x + 256 * rest) ∙ ap (little_bytes n) high ∙ number_back n xs (omega (arith, h)) all.1 in
    ap (little_bytes (suc n)) cut ∙ (λ i. low i ∷ more i)

-- the bytes of the units in bytes
pub units_back : (xs : List ℕ) → Bytes xs → length xs % 2 ≡ 0 → name_bytes (units_in xs) ≡ xs
units_back [] all even = refl
units_back (low ∷ []) all even = absurd (omega (arith, even))
units_back (low ∷ high ∷ rest) all even =
    let x : low < 256 = all.0 in
    let y : high < 256 = all.1.0 in
    let first : (low + 256 * high) % 256 ≡ low = omega (arith, x, y) in
    let second : (low + 256 * high) / 256 % 256 ≡ high = omega (arith, x, y) in
    let more = units_back rest all.1.1 (omega (arith, even)) in
    λ i. first i ∷ second i ∷ more i

-- the units in bytes
pub are_units : (xs : List ℕ) → Bytes xs → Units (units_in xs)
are_units [] all = tt
are_units (low ∷ []) all = tt
are_units (low ∷ high ∷ rest) all =
    let x : low < 256 = all.0 in
    let y : high < 256 = all.1.0 in
    (omega (arith, x, y), are_units rest all.1.1)

-- the units in the bytes of units
pub units_read : (units : List ℕ) → Units units → units_in (name_bytes units) ≡ units
units_read [] all = refl
units_read (unit ∷ units) all =
    let small : unit < 65536 = all.0 in
    let same : unit % 256 + 256 * (unit / 256 % 256) ≡ unit = omega (arith, small) in
    λ i. same i ∷ units_read units all.1 i

-- a name has two bytes for each unit
pub length-name_bytes : (units : List ℕ) → length (name_bytes units) ≡ 2 * length units
length-name_bytes [] = refl
length-name_bytes (unit ∷ units) = let more = length-name_bytes units in omega (arith, more)

-- and there are half as many units
pub length-units : (xs : List ℕ) → length xs % 2 ≡ 0 → 2 * length (units_in xs) ≡ length xs
length-units [] even = refl
length-units (low ∷ []) even = absurd (omega (arith, even))
length-units (low ∷ high ∷ rest) even = let more = length-units rest (omega (arith, even)) in omega (arith, more)

-- the same of a name of a call
pub length_name : (units : List ℕ) → length (name_bytes units) ≡ 2 * length units
length_name units = length-name_bytes units
