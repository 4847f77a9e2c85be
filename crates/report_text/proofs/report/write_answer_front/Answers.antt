use Rattle.std.proofs.Common.{◌≡◌, ℕ, List, [], ◌∷◌, ◌++◌, subst, append_assoc, decimal}
use Rattle.var_types.specs.Texts.{spaced}
use Rattle.report_text.specs.Report.{route_text}
use Rattle.report_text.proofs.report.write_answer_front.Goals as goal

-- two words, a space and a text are three words
three_words : (i p r : List ℕ) → spaced (i ∷ p ∷ []) ++ (32 ∷ r) ≡ spaced (i ∷ p ∷ r ∷ [])
three_words i p r = simp append_assoc

pub returns-clause-text : goal.returns-clause-text
returns-clause-text g c =
    let joined = g.met.P.Put.joined in
    subst (λ (t : List ℕ). g.P.Put.Puts c.args.out.now c.write_route.new.out t)
    (three_words (decimal c.args.index) (decimal c.args.place) (route_text c.args.route))
    (joined _ _ _ _ _ c.write_parts.ensures (joined _ _ _ _ _ c.put.ensures c.write_route.ensures.text))
