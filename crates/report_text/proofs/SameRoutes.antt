-- Routes of one text are the same, and so is what stands behind them.
use Rattle.std.proofs.Common.{◌≡◌, ℕ, ◌<◌, ◌^◌, List, ◌∷◌, ◌++◌, decimal, get_or, refl, ap, append_assoc, arith}
use Rattle.std.proofs.lemmas.Fmt.{decimal_injective}
use Rattle.var_types.specs.declared.answered.Route.{Route}
use Rattle.var_types.specs.declared.answered.Route.TheVariants as route
use Rattle.report_text.specs.declared.word.Word.{Word}
use Rattle.report_text.specs.declared.word.Word.TheVariants as word
use Rattle.report_text.specs.Word.{word_text}
use Rattle.report_text.specs.Report.{route_text}
use Rattle.report_text.specs.Values.{HasValuesOfRoute}
use Rattle.report_text.proofs.Cut.{cut}
use Rattle.report_text.proofs.WordBytes.{is_word_byte, IsWord-decimal, IsWord-word_text}

-- what stands behind one word
behind_word : (w : Word) (t u : List ℕ) → word_text w ++ 32 ∷ t ≡ word_text w ++ 32 ∷ u → t ≡ u
behind_word w t u e = (cut is_word_byte 32 (word_text w) (word_text w) t u refl (IsWord-word_text w) (IsWord-word_text w) e).1

-- numbers of one text, and what stands behind them
same_number : (m n : ℕ) (t u : List ℕ) → m < 2 ^ 64 → n < 2 ^ 64 → decimal m ++ 32 ∷ t ≡ decimal n ++ 32 ∷ u → (m ≡ n) × (t ≡ u)
same_number m n t u h k e =
    let parts = cut is_word_byte 32 (decimal m) (decimal n) t u refl (IsWord-decimal m) (IsWord-decimal n) e in
    (decimal_injective m n h k parts.0, parts.1)

-- routes of one text are the same, and so is what stands behind them
pub same_routes : (r s : Route) (t u : List ℕ) → HasValuesOfRoute r → HasValuesOfRoute s → route_text r ++ 32 ∷ t ≡ route_text s ++ 32 ∷ u
    → (r ≡ s) × (t ≡ u)
unfolding route_text
same_routes route.Plain route.Plain t u h k e = (refl, behind_word word.Plain t u e)
same_routes route.Cache route.Cache t u h k e = (refl, behind_word word.Cache t u e)
same_routes (route.Merged m h) (route.Merged n k) t u p q e =
    let numbers = same_number m n (decimal h ++ 32 ∷ t) (decimal k ++ 32 ∷ u) p.0 q.0
    (behind_word word.Merged (decimal m ++ 32 ∷ (decimal h ++ 32 ∷ t)) (decimal n ++ 32 ∷ (decimal k ++ 32 ∷ u)) (simp append_assoc at e)) in
    let others = same_number h k t u p.1 q.1 numbers.1 in
    (λ i. route.Merged (numbers.0 i) (others.0 i), others.1)
same_routes (route.Writer m) (route.Writer n) t u p q e =
    let numbers = same_number m n t u p q
    (behind_word word.Writer (decimal m ++ 32 ∷ t) (decimal n ++ 32 ∷ u) (simp append_assoc at e)) in
    (ap route.Writer numbers.0, numbers.1)
same_routes route.Flushed route.Flushed t u h k e = (refl, behind_word word.Flushed t u e)
same_routes (route.Deferred m) (route.Deferred n) t u p q e =
    let numbers = same_number m n t u p q
    (behind_word word.Deferred (decimal m ++ 32 ∷ t) (decimal n ++ 32 ∷ u) (simp append_assoc at e)) in
    (ap route.Deferred numbers.0, numbers.1)
same_routes r s t u h k e = unfold word_text in
    let first : get_or (route_text r ++ 32 ∷ t) 0 0 ≡ get_or (route_text s ++ 32 ∷ u) 0 0 = ap (λ (bytes : List ℕ). get_or bytes 0 0) e in
    absurd (omega (arith, first))
