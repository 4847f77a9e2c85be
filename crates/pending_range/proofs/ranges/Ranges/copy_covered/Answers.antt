use Rattle.std.proofs.Common.{List, ℕ, ◌++◌, take, drop, ◌-◌, ap, ◌∙◌}
use Rattle.pending_range.proofs.Taken.{taken_within}
use Rattle.pending_range.specs.declared.range.Range.{Range}
use Rattle.pending_range.specs.Ranges.{is_covered, is_within, taken}
use Rattle.pending_range.proofs.ranges.Ranges.copy_covered.Goals as goal

pub returns : goal.returns
unfolding is_covered
returns c =
    let from = c.min-from.result in
    let to = c.min-to.result in
    let old = c.args.into.now in
    let new = c.args.bytes.now in
    ap (λ (part : List ℕ). take from old ++ (part ++ drop (to - from) (drop from old))) c.copy_from_slice.ensures.after
    ∙ taken_within c.of-range.result new old c.requires from to c.min-to.ensures c.min-from.ensures
    ∙ ap (λ (range : Range). taken (is_within range) new old) c.of-range.ensures
