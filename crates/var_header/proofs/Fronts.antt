-- A header's fields are read from its 60 bytes alone, and State from the third of them.
use Rattle.std.proofs.Common.{◌≡◌, ℕ, ◌+◌, ◌≤◌, ◌==◌, ◌&&◌, List, [], ◌∷◌, length, take, drop, get_or, refl, sym, ap, ◌∙◌, arith, set}
use Rattle.std.proofs.lemmas.List.{drop-take, get_or-take, take-take}
use Rattle.byteorder.specs.Endian.{little_number}
use Rattle.byteorder.specs.Numbers.{little_from-take}
use Rattle.var_header.specs.Header.{has_start_id, header_of}

-- a number that is read of the first 60 bytes
number_taken : (m n : ℕ) (xs : List ℕ) → 4 ≤ n → little_number 4 (drop m (take (m + n) xs)) ≡ little_number 4 (drop m xs)
number_taken m n xs h = ap (little_number 4) (drop-take m n xs) ∙ little_from-take 0 4 n (drop m xs) (omega arith)

-- sixteen bytes that are read of the first 60
sixteen_taken : (m n : ℕ) (xs : List ℕ) → 16 ≤ n → take 16 (drop m (take (m + n) xs)) ≡ take 16 (drop m xs)
sixteen_taken m n xs h = ap (take 16) (drop-take m n xs) ∙ take-take 16 n (drop m xs) h

-- the fields are read of the first 60 bytes
pub header_taken : (xs : List ℕ) → header_of (take 60 xs) ≡ header_of xs
unfolding header_of
header_taken xs =
    λ i. record {
      state = get_or-take 60 xs 2 0 (omega arith) i;
      attributes = number_taken 4 56 xs (omega arith) i;
      time_stamp = sixteen_taken 16 44 xs (omega arith) i;
      name_size = number_taken 36 24 xs (omega arith) i;
      data_size = number_taken 40 20 xs (omega arith) i;
      vendor_guid = sixteen_taken 44 16 xs (omega arith) i;
    }

-- the StartId is read of the first 60 bytes
pub start_id_taken : (xs : List ℕ) → has_start_id (take 60 xs) ≡ has_start_id xs
unfolding has_start_id
start_id_taken xs = λ i. (get_or-take 60 xs 0 0 (omega arith) i == 0xAA) && (get_or-take 60 xs 1 0 (omega arith) i == 0x55)

-- bytes with the same first 60 have the same header
pub same_header : (xs ys : List ℕ) → take 60 xs ≡ take 60 ys → header_of xs ≡ header_of ys
same_header xs ys e = sym (header_taken xs) ∙ ap header_of e ∙ header_taken ys

-- bytes with the same first 60 begin with the StartId, or neither do
pub same_start_id : (xs ys : List ℕ) → take 60 xs ≡ take 60 ys → has_start_id xs ≡ has_start_id ys
same_start_id xs ys e = sym (start_id_taken xs) ∙ ap has_start_id e ∙ start_id_taken ys

-- the third byte is the header's State
pub state_of : (xs : List ℕ) → (header_of xs).state ≡ get_or xs 2 0
unfolding header_of
state_of xs = refl

-- a header with another State
pub header_restated : (xs : List ℕ) (state : ℕ) → 3 ≤ length xs → header_of (set xs 2 state) ≡ record (header_of xs) { state = state }
unfolding header_of
header_restated [] state h = absurd (omega arith)
header_restated (a ∷ []) state h = absurd (omega arith)
header_restated (a ∷ b ∷ []) state h = absurd (omega arith)
header_restated (a ∷ b ∷ c ∷ rest) state h = refl

-- the StartId stays where State is another
pub start_id_restated : (xs : List ℕ) (state : ℕ) → has_start_id (set xs 2 state) ≡ has_start_id xs
unfolding has_start_id
start_id_restated [] state = refl
start_id_restated (a ∷ []) state = refl
start_id_restated (a ∷ b ∷ []) state = refl
start_id_restated (a ∷ b ∷ c ∷ rest) state = refl
