use Rattle.std.proofs.Common.{◌≡◌, ◌*◌, ◌≤◌, length, map, take}
use Rattle.std.specs.Prelude.{sum_by}
use Rattle.svc_core.specs.Progress.{most_calls}
use Rattle.play_steps.proofs.playing.limit_of.Given as goal

abbrev pub invariant-loop-list : goal.invariant-loop-list
invariant-loop-list l = record {
  few : l.all ≤ most_calls * l.list-index;
  all : l.all ≡ sum_by length (map (λ v. v.items) (take l.list-index l.calls));
}
