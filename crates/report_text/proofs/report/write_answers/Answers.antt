use Rattle.std.proofs.Common.{All, List, ℕ, [], ◌∷◌, ◌++◌, sym, ap, ◌∙◌, subst, take}
use Rattle.std.proofs.lemmas.List.{take_more}
use Rattle.std.proofs.lemmas.List.Elements.{All-push}
use Rattle.var_types.specs.declared.answered.Answered.{Answered}
use Rattle.report_text.proofs.Sessions.{indexed-more}
use Rattle.report_text.specs.Report.{answer_line}
use Rattle.report_text.specs.Values.{AnswerHasValues}
use Rattle.report_text.proofs.report.write_answers.Goals as goal

pub loop-index-preserved : goal.loop-index-preserved
loop-index-preserved g c =
    let xs : List Answered = c.args.answered.now in
    let i : ℕ = c.loop-index.index in
    let a : Answered = c.index-answered-index.result in
    record {
      text =
          subst (λ (t : List ℕ). g.P.Put.Puts c.args.out.now c.write_answer.new.out t)
          (indexed-more answer_line xs i a c.loop-index-test.true c.index-answered-index.is)
          (g.met.P.Put.joined _ _ _ _ _ c.loop-index.invariant.text c.write_answer.ensures.text);
      values =
          subst (λ (ys : List Answered). All AnswerHasValues ys)
          (ap (λ x. take i xs ++ x ∷ []) c.index-answered-index.is ∙ sym (take_more xs i a c.loop-index-test.true))
          (All-push AnswerHasValues (take i xs) a c.loop-index.invariant.values c.write_answer.ensures.values);
    }
