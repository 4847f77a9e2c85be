use Rattle.std.proofs.Common.{◌≡◌, ◌≤◌, List, [], ◌∷◌, ◌++◌, length}
use Rattle.std.specs.Vec.Iter.{into_iter_items}
use Rattle.script_text.specs.Script.{most_calls}
use Rattle.var_types.specs.declared.answered.Answered.{Answered}
use Rattle.var_types.specs.Session.{calls_of}
use Rattle.var_types.specs.State.{State}
use Rattle.varsvc.specs.Running.{HasRun}
use Rattle.varsvc.proofs.run.runner.run_calls.Given as goal

abbrev pub invariant-loop-call : goal.invariant-loop-call
invariant-loop-call g l = record {
  run : (first : State) (flash : _) (front : List (List Answered)) → l.fn.processor ≡ length front
      → HasRun g.F.Flash.fault_count g.F.Flash.moment g.F.Flash.left_since g.F.Flash.holds first flash l.fn.engine front
      → HasRun g.F.Flash.fault_count g.F.Flash.moment g.F.Flash.left_since g.F.Flash.holds first flash l.engine (front ++ l.answers.answered ∷ []);
  calls : calls_of l.answers.answered ++ into_iter_items l.call-iterator ≡ l.fn.queue;
  limit : l.answers.limit ≡ length l.fn.queue;
  few : length l.fn.queue ≤ most_calls;
  desk : l.desk ≡ l.fn.desk;
}
