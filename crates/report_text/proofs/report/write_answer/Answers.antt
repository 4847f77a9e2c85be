use Rattle.std.proofs.Common.{◌≡◌, ℕ, List, [], ◌∷◌, ◌++◌, subst, append_assoc, decimal}
use Rattle.var_types.specs.Texts.{spaced}
use Rattle.report_text.specs.Replies.{reply_text}
use Rattle.report_text.specs.Report.{answer_line, route_text}
use Rattle.report_text.proofs.report.write_answer.Goals as goal

-- three words, a space, the reply and the end are a line of four words
four_words : (i p r reply : List ℕ) → spaced (i ∷ p ∷ r ∷ []) ++ (32 ∷ (reply ++ 10 ∷ [])) ≡ spaced (i ∷ p ∷ r ∷ reply ∷ []) ++ 10 ∷ []
four_words i p r reply = simp append_assoc

pub returns-clause-text : goal.returns-clause-text
unfolding answer_line
returns-clause-text g c =
    let a = c.args.a.now in
    let joined = g.met.P.Put.joined in
    subst (λ (t : List ℕ). g.P.Put.Puts c.args.out.now c.put-2.new.self t)
    (four_words (decimal c.args.index) (decimal a.place) (route_text a.route) (reply_text a.reply))
    (joined _ _ _ _ _ c.write_answer_front.ensures.text (joined _ _ _ _ _ c.put.ensures (joined _ _ _ _ _ c.write_reply.ensures.text c.put-2.ensures)))
