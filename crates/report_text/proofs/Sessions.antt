-- Texts of items one after the other.
use Rattle.std.proofs.Common.{◌≡◌, ℕ, ◌+◌, ◌<◌, List, [], ◌∷◌, ◌++◌, length, map, get_or, take, flat_map, sym, ap, ◌∙◌, append_assoc, arith}
use Rattle.std.proofs.lemmas.List.{append-nil, length-map, length-take-le, map-append, take_more}
use Rattle.std.proofs.lemmas.List.Concat.{flat_map-append}
use Rattle.report_text.specs.Report.{indexed}

-- one more item
indexed-snoc : {A : Type 0} (text : ℕ → A → List ℕ) (index : ℕ) (xs : List A) (a : A)
    → indexed text index (xs ++ a ∷ []) ≡ indexed text index xs ++ text (index + length xs) a
indexed-snoc text index [] a = append-nil (text index a) ∙ ap (λ n. text n a) (omega arith)
indexed-snoc text index (x ∷ xs) a =
    ap (λ t. text index x ++ t) (indexed-snoc text (index + 1) xs a)
    ∙ sym (append_assoc (text index x) (indexed text (index + 1) xs) (text (index + 1 + length xs) a))
    ∙ ap (λ n. (text index x ++ indexed text (index + 1) xs) ++ text n a) (omega arith)

-- what is seen of the first items, and of the next one
pub map_more : {A B : Type 0} (f : A → B) (xs : List A) (i : ℕ) (a : A) → i < length xs → a ≡ get_or xs i a
    → map f (take i xs) ++ f a ∷ [] ≡ map f (take (i + 1) xs)
map_more f xs i a l at =
    sym (map-append f (take i xs) (a ∷ [])) ∙ ap (map f) (ap (λ x. take i xs ++ x ∷ []) at ∙ sym (take_more xs i a l))

-- the texts of so many items, and that of the next one
indexed-next : {A : Type 0} (text : ℕ → A → List ℕ) (xs : List A) (i : ℕ) (a : A) → length xs ≡ i
    → indexed text 0 xs ++ text i a ≡ indexed text 0 (xs ++ a ∷ [])
indexed-next text xs i a len = ap (λ n. indexed text 0 xs ++ text n a) (omega (arith, len)) ∙ sym (indexed-snoc text 0 xs a)

-- the texts so far and that of the next item
pub indexed-more : {A : Type 0} (text : ℕ → A → List ℕ) (xs : List A) (i : ℕ) (a : A) → i < length xs → a ≡ get_or xs i a
    → indexed text 0 (take i xs) ++ text i a ≡ indexed text 0 (take (i + 1) xs)
indexed-more text xs i a l at =
    indexed-next text (take i xs) i a (length-take-le i xs (omega arith))
    ∙ ap (indexed text 0) (ap (λ x. take i xs ++ x ∷ []) at ∙ sym (take_more xs i a l))

-- the same of what is seen of each item
pub indexed-map-more : {A B : Type 0} (text : ℕ → B → List ℕ) (f : A → B) (xs : List A) (i : ℕ) (a : A) → i < length xs → a ≡ get_or xs i a
    → indexed text 0 (map f (take i xs)) ++ text i (f a) ≡ indexed text 0 (map f (take (i + 1) xs))
indexed-map-more text f xs i a l at =
    indexed-next text (map f (take i xs)) i (f a) (length-map (take i xs) f ∙ length-take-le i xs (omega arith))
    ∙ ap (indexed text 0) (map_more f xs i a l at)

-- the same without indexes
pub flat-more : {A B : Type 0} (text : B → List ℕ) (f : A → B) (xs : List A) (i : ℕ) (a : A) → i < length xs → a ≡ get_or xs i a
    → flat_map text (map f (take i xs)) ++ text (f a) ≡ flat_map text (map f (take (i + 1) xs))
flat-more text f xs i a l at =
    ap (λ t. flat_map text (map f (take i xs)) ++ t) (sym (append-nil (text (f a))))
    ∙ sym (flat_map-append text (map f (take i xs)) (f a ∷ []))
    ∙ ap (flat_map text) (map_more f xs i a l at)
