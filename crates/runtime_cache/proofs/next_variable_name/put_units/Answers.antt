use Rattle.std.proofs.Common.{◌≤◌, [], length, arith, ◌∙◌}
use Rattle.std.specs.List.{slice_set}
use Rattle.std.specs.Int.{from_le_bytes, w16}
use Rattle.var_region.proofs.LentNames.{length_units}
use Rattle.runtime_cache.proofs.Units.{put_all, put_next}
use Rattle.runtime_cache.proofs.next_variable_name.put_units.Goals as goal

pub bounds-into-i : goal.bounds-into-i
bounds-into-i c = omega (arith, length_units c.args.bytes.now)

pub loop-i-preserved : goal.loop-i-preserved
loop-i-preserved c =
    let fits : length c.as_chunks.result.0.now ≤ length c.args.into.now = omega (arith, length_units c.args.bytes.now) in
    (λ j. slice_set (c.loop-i.invariant j) c.loop-i.i (c.from_le_bytes.ensures j))
    ∙ put_next (from_le_bytes w16) c.loop-i.i c.as_chunks.result.0.now [] c.args.into.now c.loop-i-test.true fits

pub returns : goal.returns
returns c = c.loop-i.invariant ∙ put_all c.args.bytes.now c.as_chunks.result.0.now c.args.into.now c.loop-i.i c.as_chunks.ensures.front (omega arith)
