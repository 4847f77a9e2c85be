use Rattle.varsvc.proofs.Streams.{part_gains, part_sink, whole_gains, whole_sink}
use Rattle.varsvc.proofs.output.print.stream.Goals as goal

pub returns-in-Ok-clause-sink : goal.returns-in-Ok-clause-sink
returns-in-Ok-clause-sink g c =
    let text = c.in-Ok.ensures.text in
    whole_sink c.args.streamed.now text.0 c.in-Ok.status text.1 _ _ text.3 text.2 c.requires text.4 c.in-Ok.ensures.ok

pub returns-in-Ok-clause-gains : goal.returns-in-Ok-clause-gains
returns-in-Ok-clause-gains g c =
    let text = c.in-Ok.ensures.text in
    whole_gains c.args.streamed.now text.0 c.in-Ok.status text.1 _ _ text.3 text.2 c.requires text.4 c.in-Ok.ensures.ok

pub returns-in-Err-clause-sink : goal.returns-in-Err-clause-sink
returns-in-Err-clause-sink g c =
    let text = c.in-Err.ensures.text in
    part_sink c.args.streamed.now text.0 text.1 _ _ text.2 c.requires text.4 c.in-Err.ensures.err

pub returns-in-Err-clause-gains : goal.returns-in-Err-clause-gains
returns-in-Err-clause-gains g c =
    let text = c.in-Err.ensures.text in
    part_gains c.args.streamed.now text.0 text.1 _ _ text.2 c.requires text.4 c.in-Err.ensures.err
