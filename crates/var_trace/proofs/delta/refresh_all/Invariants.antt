use Rattle.std.proofs.Common.{◌≡◌, ◌++◌, map, take, drop}
use Rattle.var_trace.specs.Pieces.{refreshed}
use Rattle.var_trace.proofs.delta.refresh_all.Given as goal

abbrev pub invariant-loop-piece : goal.invariant-loop-piece
invariant-loop-piece l =
    l.pieces ≡ map (refreshed l.bytes) (take l.piece-index l.initial.pieces) ++ drop l.piece-index l.initial.pieces
