use Rattle.std.proofs.Common.{◌≡◌, ◌*◌, ◌≤◌, length, sum_by, take}
use Rattle.varsvc.proofs.run.run_plan.count_calls.Given as goal

abbrev pub invariant-loop-queue : goal.invariant-loop-queue
invariant-loop-queue l = record {
  counted : l.count ≡ sum_by length (take l.queue-index l.queues);
  within : l.count ≤ 20000 * l.queue-index;
}
