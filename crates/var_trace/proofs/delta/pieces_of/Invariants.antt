use Rattle.std.proofs.Common.{◌≡◌, map, take}
use Rattle.var_trace.specs.Pieces.{piece_of}
use Rattle.var_trace.proofs.delta.pieces_of.Given as goal

abbrev pub invariant-loop-span : goal.invariant-loop-span
invariant-loop-span l = l.pieces.items ≡ map (piece_of l.store l.bytes) (take l.span-index l.spans)
