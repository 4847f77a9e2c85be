use Rattle.std.proofs.Common.{false, drop, refl}
use Rattle.mm_writer.proofs.Decided.{bytes_alone, may_write, write_within}
use Rattle.mm_writer.specs.Side.{state_of}
use Rattle.var_types.specs.Reading.{set_key}
use Rattle.var_types.specs.State.{stored_at}
use Rattle.mm_writer.proofs.engine.Engine.write.Goals as goal

pub payload_of-payload-requires : goal.payload_of-payload-requires
payload_of-payload-requires g c =
    write_within c.decisions_decide.ensures (state_of c.args.self.now.1.1) c.args.call.now c.args.attributes c.args.stamp c.args.skip false c.requires.write

pub put-requires-clause-may : goal.put-requires-clause-may
put-requires-clause-may g c =
    let state = state_of c.args.self.now.1.1 in
    let call = c.args.call.now in
    may_write c.decisions_decide.ensures state call c.args.attributes c.args.stamp c.args.skip false c.payload_of-payload.result.now c.requires.write
    c.payload_of-payload.ensures.attributes
    (bytes_alone false (stored_at state (set_key call)) (drop c.args.skip call.bytes) c.payload_of-payload.result.now refl c.payload_of-payload.ensures.payload)
