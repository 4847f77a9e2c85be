use Rattle.std.proofs.Common.{◌≡◌}
use Rattle.image_make.specs.Generated.{first_calls}
use Rattle.image_make.proofs.calls.generated_calls.Given as goal

abbrev pub invariant-loop-index : goal.invariant-loop-index
invariant-loop-index l = l.calls.items ≡ first_calls l.number l.index
