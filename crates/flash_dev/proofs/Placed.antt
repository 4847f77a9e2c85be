-- The headers, written piece by piece.
use Rattle.std.proofs.Common.{◌≡◌, ℕ, ◌+◌, List, ◌++◌, length, take, ap, sym, ◌∙◌}
use Rattle.std.proofs.lemmas.List.{append_assoc}

-- a piece is written behind a front
pub placed : (at end : ℕ) (front bytes more next : List ℕ) → more ≡ bytes → at + length bytes ≡ end → take (at + length more) next ≡ front ++ more
    → take end next ≡ front ++ bytes
placed at end front bytes more next same size is =
    ap (λ n. take n next) (sym size) ∙ ap (λ b. take (at + length b) next) (sym same) ∙ is ∙ ap (λ b. front ++ b) same

-- one more piece is written behind others
pub placed_more : (at end : ℕ) (olds front bytes more now next : List ℕ) → take at now ≡ olds ++ front → more ≡ bytes → at + length bytes ≡ end
    → take (at + length more) next ≡ take at now ++ more → take end next ≡ olds ++ (front ++ bytes)
placed_more at end olds front bytes more now next was same size is =
    placed at end (take at now) bytes more next same size is ∙ ap (λ list. list ++ bytes) was ∙ append_assoc olds front bytes
