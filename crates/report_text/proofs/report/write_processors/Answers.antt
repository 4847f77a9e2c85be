use Rattle.std.proofs.Common.{All, List, ◌++◌, ℕ, ap, ◌∙◌, take, map, subst}
use Rattle.std.proofs.lemmas.List.Elements.{All-push}
use Rattle.report_text.proofs.Sessions.{indexed-map-more, map_more}
use Rattle.report_text.specs.Report.{indexed, processor_lines}
use Rattle.report_text.specs.Values.{AnswerHasValues, HaveValues}
use Rattle.var_trace.specs.Answers.{AnsweredCalls}
use Rattle.var_types.specs.declared.answered.Answered.{Answered}
use Rattle.report_text.proofs.report.write_processors.Goals as goal

pub loop-processor-preserved : goal.loop-processor-preserved
loop-processor-preserved g c =
    let seen : AnsweredCalls → List Answered = λ answers. answers.answered in
    let xs : List AnsweredCalls = c.args.processors.now in
    let i : ℕ = c.loop-processor.processor in
    let a : AnsweredCalls = c.index-processors-processor.result in
    record {
      text =
          subst (λ (t : List ℕ). g.P.Put.Puts c.args.out.now c.write_processor.new.out t)
          (ap (λ (answered : List Answered). indexed processor_lines 0 (map seen (take i xs)) ++ processor_lines i answered) c.as_slice.ensures.answered
          ∙ indexed-map-more processor_lines seen xs i a c.loop-processor-test.true c.index-processors-processor.is)
          (g.met.P.Put.joined _ _ _ _ _ c.loop-processor.invariant.text c.write_processor.ensures.text);
      values =
          subst HaveValues (map_more seen xs i a c.loop-processor-test.true c.index-processors-processor.is)
          (All-push (λ (answered : List Answered). All AnswerHasValues answered) (map seen (take i xs)) (seen a) c.loop-processor.invariant.values
          (subst (All AnswerHasValues) c.as_slice.ensures.answered c.write_processor.ensures.values));
    }
