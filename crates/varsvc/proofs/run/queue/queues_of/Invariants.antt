use Rattle.std.proofs.Common.{◌≡◌, ◌≤◌, ◌++◌, length, map, All}
use Rattle.std.specs.Vec.Iter.{into_iter_items}
use Rattle.script_text.specs.Script.{most_calls}
use Rattle.varsvc.proofs.run.queue.queues_of.Given as goal

abbrev pub invariant-loop-calls : goal.invariant-loop-calls
invariant-loop-calls l = record {
  whole : l.queues.items ++ map (λ v. v.items) (into_iter_items l.calls-iterator) ≡ map (λ v. v.items) l.fn.script.items;
  short : All (λ calls. length calls ≤ most_calls) (map (λ v. v.items) (into_iter_items l.calls-iterator));
}
