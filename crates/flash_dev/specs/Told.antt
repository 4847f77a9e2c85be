-- What the laws of a flash in memory rest on.
use Rattle.std.proofs.Common.{◌≡◌, ℕ, zero, suc, ◌≤◌, List, [], ◌∷◌, ◌++◌, Some, length, drop, arith, subst, sym}
use Rattle.std.specs.List.{Contains}
use Rattle.std.proofs.lemmas.List.{drop-append-le}
use Rattle.std.proofs.lemmas.List.Elements.{Contains-push}
use Rattle.std.proofs.Math.Seq.{drop-append_seam}

-- the bytes that are told are the bytes
pub bytes_told : (bytes left : List ℕ) → Some bytes ≡ Some left → left ≡ bytes
bytes_told bytes left told = cc

-- the bytes now are among the images since a moment that has been
pub now_recorded : (past : List (List ℕ)) (bytes : List ℕ) (moment : ℕ) (left : List ℕ) → moment ≤ length past → Some bytes ≡ Some left
    → Contains (drop moment (past ++ bytes ∷ [])) left
now_recorded past bytes moment left early told =
    subst (λ (images : List (List ℕ)). Contains images left) (sym (drop-append-le moment past (bytes ∷ []) early))
    (subst (λ last. Contains (drop moment past ++ last ∷ []) left) (bytes_told bytes left told) (Contains-push (drop moment past) left))

-- an element of a list of one
pub only_one : (bytes left : List ℕ) → Contains (bytes ∷ []) left → left ≡ bytes
only_one bytes left (zero, lt, is) = sym is
only_one bytes left (suc k, lt, is) = absurd (omega arith)

-- since the present moment there are the bytes now alone
pub only_recorded : (past : List (List ℕ)) (bytes left : List ℕ) → Contains (drop (length past) (past ++ bytes ∷ [])) left → left ≡ bytes
only_recorded past bytes left since =
    only_one bytes left (subst (λ (images : List (List ℕ)). Contains images left) (drop-append_seam past (bytes ∷ [])) since)
