use Rattle.std.proofs.Common.{◌≡◌, [], ◌++◌, map}
use Rattle.std.specs.Vec.Iter.{into_iter_items}
use Rattle.var_types.specs.Session.{calls_of}
use Rattle.var_types.specs.State.{State}
use Rattle.varsvc.specs.Running.{HasRun}
use Rattle.varsvc.proofs.run.runner.run_queues.Given as goal

abbrev pub invariant-loop-queue : goal.invariant-loop-queue
invariant-loop-queue g l = record {
  run : (first : State) (flash : _) → HasRun g.F.Flash.fault_count g.F.Flash.moment g.F.Flash.left_since g.F.Flash.holds first flash l.fn.engine []
      → HasRun g.F.Flash.fault_count g.F.Flash.moment g.F.Flash.left_since g.F.Flash.holds first flash l.engine l.desk;
  calls : map calls_of l.desk ++ into_iter_items l.queue-iterator ≡ l.fn.queues.items;
}
