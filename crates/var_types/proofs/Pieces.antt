-- Texts that are made piece by piece.
use Rattle.std.proofs.Common.{◌≡◌, ℕ, ◌+◌, ◌/◌, ◌%◌, ◌<◌, true, eqb, List, [], ◌∷◌, ◌++◌, length, get_or, take, drop, flat_map, append_assoc, refl, sym, ap, ◌∙◌, arith}
use Rattle.std.proofs.lemmas.Bool.{ne_eqb}
use Rattle.std.proofs.lemmas.List.{append-nil, take_more, take-append-drop}
use Rattle.std.proofs.lemmas.List.Concat.{flat_map-append}
use Rattle.hex.specs.Hex.{encode_lower, encode_with}
use Rattle.var_types.specs.Texts.{later_words, spaced}

-- the texts of the elements so far and of the next one
pub flat_map-take_more : {A : Type 0} (f : A → List ℕ) (xs : List A) (i : ℕ) (d x : A) → i < length xs → x ≡ get_or xs i d
    → flat_map f (take i xs) ++ f x ≡ flat_map f (take (i + 1) xs)
flat_map-take_more f xs i d x within is =
    sym (
    ap (flat_map f) (take_more xs i d within ∙ ap (λ y. take i xs ++ y ∷ []) (sym is))
    ∙ flat_map-append f (take i xs) (x ∷ [])
    ∙ ap (λ t. flat_map f (take i xs) ++ t) (append-nil (f x))
    )

-- words with a space between each two are the first, and each later one behind a space
pub spaced-cons : (word : List ℕ) (words : List (List ℕ)) → word ++ later_words words ≡ spaced (word ∷ words)
spaced-cons word [] = append-nil word
spaced-cons word (next ∷ words) = ap (λ text. word ++ (32 ∷ text)) (spaced-cons next words)

-- the digits of two lists of bytes
encode_with-append : (digits xs ys : List ℕ) → encode_with digits (xs ++ ys) ≡ encode_with digits xs ++ encode_with digits ys
unfolding encode_with
encode_with-append digits [] ys = refl
encode_with-append digits (x ∷ xs) ys =
    ap (λ (t : List ℕ). get_or digits (x / 16) 0 ∷ get_or digits (x % 16) 0 ∷ t) (encode_with-append digits xs ys)

pub encode_lower-append : (xs ys : List ℕ) → encode_lower (xs ++ ys) ≡ encode_lower xs ++ encode_lower ys
encode_lower-append xs ys = encode_with-append _ xs ys

-- no bytes have no digits
pub encode_lower-nil : encode_lower [] ≡ []
unfolding encode_with
encode_lower-nil = refl

-- a front of bytes that has no bytes behind it is all of them
pub whole_front : (front rest bytes : List ℕ) → front ++ rest ≡ bytes → true ≡ eqb (length rest) 0 → front ≡ bytes
whole_front front [] bytes is none = sym (append-nil front) ∙ is
whole_front front (b ∷ rest) bytes is none = let some : eqb (length (b ∷ rest)) 0 ≡ _ = ne_eqb _ _ (λ e. omega arith) in absurd cc

-- a front of bytes and the next piece are a front
pub next_front : (front rest bytes piece behind : List ℕ) (n : ℕ) → front ++ rest ≡ bytes → piece ≡ take n rest → behind ≡ drop n rest
    → (front ++ piece) ++ behind ≡ bytes
next_front front rest bytes piece behind n is first last =
    append_assoc front piece behind
    ∙ ap (λ (t : List ℕ). front ++ t) (ap (λ (t : List ℕ). t ++ behind) first ∙ ap (λ (t : List ℕ). take n rest ++ t) last ∙ take-append-drop n rest)
    ∙ is
