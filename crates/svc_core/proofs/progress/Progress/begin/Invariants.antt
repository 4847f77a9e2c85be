use Rattle.std.proofs.Common.{◌≡◌, ◌+◌, ◌++◌, length, map, vec_len}
use Rattle.std.specs.Vec.Iter.{into_iter_items, into_iter_len}
use Rattle.svc_core.specs.Progress.{answers_before, seat_before}
use Rattle.svc_core.proofs.progress.Progress.begin.Given as goal

abbrev pub invariant-loop-calls : goal.invariant-loop-calls
invariant-loop-calls l = record {
  answers : l.processors.items ≡ map (λ v. answers_before v.items) l.yielded;
  seats : l.seats.items ≡ map (λ v. seat_before v.items) l.yielded;
  left : length l.yielded + into_iter_len l.calls-iterator ≡ vec_len l.fn.calls;
  whole : l.yielded ++ into_iter_items l.calls-iterator ≡ l.fn.calls.items;
}
