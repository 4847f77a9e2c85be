use Rattle.std.proofs.Common.{List, ap, subst, sym, length, ◌<◌, ◌∙◌}
use Rattle.var_trace.proofs.Answering.{at_index}
use Rattle.var_trace.specs.Answers.{AnsweredCalls}
use Rattle.var_trace.specs.Session.{SessionParts, calls_answered}
use Rattle.var_trace.proofs.session.Session.answered.Goals as goal

pub returns : goal.returns
returns c =
    let same = ap (λ (s : SessionParts). s.processors) c.self.view_is in
    let known = subst (λ (xs : List AnsweredCalls). c.args.processor < length xs) (sym same) c.requires in
    c.as_slice.ensures.answered ∙ ap (λ (x : AnsweredCalls). x.answered) c.index.ensures
    ∙ at_index c.self.inside.processors.items c.args.processor c.index.result.now known
    ∙ ap (λ (xs : List AnsweredCalls). calls_answered xs c.args.processor) same
