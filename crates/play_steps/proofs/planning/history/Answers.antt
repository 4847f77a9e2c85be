use Rattle.std.proofs.Common.{rules}
use Rattle.mm_writer.proofs.InDoubt.{kept_sure}
use Rattle.play_steps.specs.EngineWriter.{EngineState}
use Rattle.play_steps.specs.ListedFlash.{bytes_of}
use Rattle.play_steps.proofs.planning.history.Goals as goal

pub returns-clause-whole : goal.returns-clause-whole
returns-clause-whole c =
    let e : EngineState = c.args.engine.now in
    record {
      consistent = search rules;
      sizes = search rules;
      size = search rules;
      room = search rules;
      kept = λ sure. kept_sure e.1.1 e.1.0 (bytes_of e.0) sure c.trace-trace.ensures.keeps;
      volume = search rules;
    }
