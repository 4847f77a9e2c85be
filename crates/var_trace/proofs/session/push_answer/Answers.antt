use Rattle.std.proofs.Common.{ap, set, ◌∙◌}
use Rattle.var_trace.proofs.Answering.{set_answered}
use Rattle.var_trace.proofs.session.push_answer.Goals as goal

pub returns : goal.returns
returns c =
    ap (set c.args.processors.now c.args.processor) c.push.ensures
    ∙ set_answered c.args.processors.now c.args.processor c.index-processors-processor.result c.args.answered c.requires.known
