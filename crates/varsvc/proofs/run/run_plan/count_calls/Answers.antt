use Rattle.std.proofs.Common.{List, length, ap, ◌∙◌, arith}
use Rattle.std.proofs.lemmas.List.Sums.{sum_by_more}
use Rattle.var_types.specs.declared.call.Call.{Call}
use Rattle.varsvc.proofs.run.run_plan.count_calls.Goals as goal

pub loop-queue-preserved : goal.loop-queue-preserved
loop-queue-preserved c =
    let more = sum_by_more length c.args.queues.now c.loop-queue.queue-index c.queue-item.result c.loop-queue-test.true in
    let own = c.len-count.ensures.count ∙ ap (λ (calls : List Call). length calls) c.queue-item.is in
    let counted = c.loop-queue.invariant.counted in
    let within = c.loop-queue.invariant.within in
    let few = c.len-count.ensures.few in
    let count = c.len-count.ensures.count in
    record { counted = omega (arith, more, own, counted); within = omega (arith, within, few, count) }
