-- Where bytes were written, with ranges of no bytes besides.
use Rattle.std.proofs.Common.{◌≡◌, ℕ, List, [], ◌∷◌, ◌++◌, refl, ap, ◌∙◌}
use Rattle.nv_store.specs.Places.{nowhere}
use Rattle.var_types.specs.declared.span.Span.{Span}
use Rattle.var_types.specs.Placed.{placed}
use Rattle.var_types.specs.Spans.{IsWritten, cut, pasted}

-- what is pasted in some ranges and then in others
pasted-append : (spans more : List Span) (new old : List ℕ) → pasted (spans ++ more) new old ≡ pasted more new (pasted spans new old)
pasted-append [] more new old = refl
pasted-append (span ∷ spans) more new old = pasted-append spans more new (placed span.from (cut span new) old)

-- nothing is pasted nowhere
pasted_nowhere : (new : List ℕ) → pasted (nowhere ∷ []) new new ≡ new
unfolding placed
pasted_nowhere new = refl

-- bytes that were written in some ranges were written in those and nowhere
pub written_nowhere : (spans : List Span) (old new : List ℕ) → IsWritten spans old new → IsWritten (spans ++ nowhere ∷ []) old new
written_nowhere spans old new is = record {
  len = is.len;
  pasted = pasted-append spans (nowhere ∷ []) new old ∙ ap (pasted (nowhere ∷ []) new) is.pasted ∙ pasted_nowhere new;
}
