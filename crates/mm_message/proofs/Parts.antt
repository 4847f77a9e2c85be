-- A part of a list, from one place up to another.
use Rattle.std.proofs.Common.{◌≡◌, ℕ, ◌+◌, ◌-◌, ◌≤◌, List, ◌++◌, length, take, drop, sym, ap, ◌∙◌, arith}
use Rattle.std.proofs.lemmas.List.{drop-append-le, drop-drop, drop-take, length-take-le}

-- it ends where the list is cut
pub part_is : (from to : ℕ) (xs : List ℕ) → from ≤ to → take (to - from) (drop from xs) ≡ drop from (take to xs)
part_is from to xs h =
    let end : from + (to - from) ≡ to = omega (arith, h) in
    sym (drop-take from (to - from) xs) ∙ ap (λ n. drop from (take n xs)) end

-- without its first elements
pub part_less : (from to n : ℕ) (xs : List ℕ) → from + n ≤ to → take (to - (from + n)) (drop (from + n) xs) ≡ drop n (take (to - from) (drop from xs))
part_less from to n xs h =
    part_is (from + n) to xs h ∙ sym (drop-drop n from (take to xs)) ∙ ap (drop n) (sym (part_is from to xs (omega (arith, h))))

-- with more behind it
pub part_more : (from to end : ℕ) (old new more : List ℕ) → from ≤ to → to ≤ length old → to ≤ end → take end new ≡ take to old ++ more
    → take (end - from) (drop from new) ≡ take (to - from) (drop from old) ++ more
part_more from to end old new more order within behind written =
    let size = length-take-le to old within in
    part_is from end new (omega (arith, order, behind)) ∙ ap (drop from) written ∙ drop-append-le from (take to old) more (omega (arith, size, order))
    ∙ ap (λ (xs : List ℕ). xs ++ more) (sym (part_is from to old order))
