-- An image of its headers, erased behind them.
use Rattle.std.proofs.Common.{◌≡◌, ℕ, ◌-◌, List, ◌++◌, length, replicate, take, ap, ◌∙◌, arith}
use Rattle.std.proofs.lemmas.List.{take_all}

-- headers that are filled up to an image's length
pub image-filled : (items headers : List ℕ) (long : ℕ) → items ≡ headers → length headers ≡ 100 → long ≡ 100
    → take 131072 items ++ replicate (131072 - long) 255 ≡ headers ++ replicate 130972 255
image-filled items headers long are count is_long =
    let same : length items ≡ length headers = ap length are in
    let left : 131072 - long ≡ 130972 = omega arith in
    ap (λ (xs : List ℕ). xs ++ replicate (131072 - long) 255) (take_all 131072 items (omega arith) ∙ are)
    ∙ ap (λ (n : ℕ). headers ++ replicate n 255) left
