use Rattle.std.proofs.Common.{◌≡◌, ℕ, ◌+◌, List, ◌++◌, length, take, drop, sym, take-append-drop}
use Rattle.std.proofs.lemmas.List.{take_at, drop-drop}

-- what is left is its front, as it was copied into a piece, and then what lies behind that front
pub left_of_copied : (bytes copied rest : List ℕ) (at n : ℕ) → copied ≡ take n (drop at bytes) → length copied ≡ n
    → drop at bytes ≡ take n (copied ++ rest) ++ drop (at + n) bytes
left_of_copied bytes copied rest at n front measured =
    rw (take_at copied rest n measured, front, ← drop-drop n at bytes) (sym (take-append-drop n (drop at bytes)))
