use Rattle.std.proofs.Common.{◌≡◌, take}
use Rattle.svc_core.specs.Ranges.{covering}
use Rattle.svc_core.proofs.apply.cover.Given as goal

abbrev pub invariant-loop-piece : goal.invariant-loop-piece
invariant-loop-piece l = l.ranges ≡ covering l.initial.ranges (take l.piece-index l.piece-items)
