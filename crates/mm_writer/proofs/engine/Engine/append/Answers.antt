use Rattle.std.proofs.Common.{true, List, ℕ, ◌++◌, drop, ap, refl, ◌∙◌}
use Rattle.mm_writer.proofs.Decided.{bytes_joined, may_write, write_within}
use Rattle.mm_writer.specs.Side.{state_of}
use Rattle.var_types.specs.Reading.{kept_bytes, set_key}
use Rattle.var_types.specs.State.{stored_at}
use Rattle.mm_writer.proofs.engine.Engine.append.Goals as goal

pub payload_of-payload-requires : goal.payload_of-payload-requires
payload_of-payload-requires g c =
    write_within c.decisions_decide.ensures (state_of c.args.self.now.1.1) c.args.call.now c.args.attributes c.args.stamp c.args.skip true c.requires.append

pub put-requires-clause-may : goal.put-requires-clause-may
put-requires-clause-may g c =
    let state = state_of c.args.self.now.1.1 in
    let call = c.args.call.now in
    let found = stored_at state (set_key call) in
    may_write c.decisions_decide.ensures state call c.args.attributes c.args.stamp c.args.skip true c.as_slice.result.now c.requires.append
    c.payload_of-payload.ensures.attributes
    (bytes_joined true found (drop c.args.skip call.bytes) c.as_slice.result.now refl
    (c.as_slice.ensures.items ∙ c.in-Ok.ensures.bytes ∙ ap (λ (payload : List ℕ). kept_bytes true found ++ payload) c.payload_of-payload.ensures.payload))
