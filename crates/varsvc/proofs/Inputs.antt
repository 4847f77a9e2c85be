use Rattle.std.proofs.Common.{◌≡◌, ℕ, ◌≤◌, List, ◌++◌, length, take, Option, Some, None, sym, ap, ◌∙◌, append_assoc}
use Rattle.std.proofs.lemmas.List.{append-nil, take_at, take_all}
use Rattle.std.specs.Io.KnownBytes.{Consumes, IsAtEnd}
use Rattle.varsvc.specs.Input.{IsInput, most_read}

-- one front is used up, and then the next
pub Consumes-append : (l m n : Option (List ℕ)) (xs ys : List ℕ) → Consumes l m xs → Consumes m n ys → Consumes l n (xs ++ ys)
Consumes-append None m n xs ys h k = tt
Consumes-append (Some a) None n xs ys h k = absurd h
Consumes-append (Some a) (Some b) None xs ys h k = absurd k
Consumes-append (Some a) (Some b) (Some c) xs ys h k = h ∙ ap (λ t. xs ++ t) k ∙ sym (append_assoc xs ys c)

-- as much was used up as is read at most
pub IsInput-full : (l m : Option (List ℕ)) (xs : List ℕ) → Consumes l m xs → length xs ≡ most_read → IsInput l xs
unfolding IsInput
IsInput-full None m xs h k = tt
IsInput-full (Some a) None xs h k = absurd h
IsInput-full (Some a) (Some b) xs h k = sym (ap (take most_read) h ∙ take_at xs b most_read k)

-- all was used up, and it isn't more than is read at most
pub IsInput-end : (l m : Option (List ℕ)) (xs : List ℕ) → Consumes l m xs → IsAtEnd m → length xs ≤ most_read → IsInput l xs
unfolding IsInput
IsInput-end None m xs h e k = tt
IsInput-end (Some a) None xs h e k = absurd h
IsInput-end (Some a) (Some b) xs h e k =
    sym (ap (take most_read) (h ∙ ap (λ t. xs ++ t) e ∙ append-nil xs) ∙ take_all most_read xs k)
