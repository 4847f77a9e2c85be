use Rattle.varsvc.proofs.Running.{serves_set}
use Rattle.varsvc.proofs.run.serving.serve_set.Goals as goal

pub returns : goal.returns
returns g c =
    serves_set c.args.engine.now c.set.new.self c.args.processor c.args.index c.args.call.now c.trace-trace.ensures.keeps c.trace-trace.ensures.doubt c.set.result
    c.set.ensures
