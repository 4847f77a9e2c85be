use Rattle.std.proofs.Common.{ℕ, ◌⊎◌, drop}
use Rattle.pending_range.specs.Ranges.{IsCovered, IsWider}
use Rattle.var_types.specs.Spans.{IsInside}
use Rattle.mm_writer.proofs.books.extend_by.Given as goal

abbrev pub invariant-loop-span : goal.invariant-loop-span
invariant-loop-span l = record {
  wider : IsWider l.initial.ranges l.ranges;
  covers : (at : ℕ) → IsInside at l.spans → IsCovered l.ranges l.store at ⊎ IsInside at (drop l.span-index l.spans);
}
