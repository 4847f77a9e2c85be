use Rattle.std.specs.Prelude.{◌+◌, List, [], ◌∷◌, length}
use Rattle.pending_range.specs.declared.ranges.Ranges.{Ranges}
use Rattle.pending_range.specs.Ranges.{extended}
use Rattle.var_trace.specs.declared.piece.Piece.{Piece}

-- ranges that cover the places of pieces too, one piece after the other (this project's own)
unfoldable pub covering : Ranges → List Piece → Ranges
covering ranges [] = ranges
covering ranges (piece ∷ pieces) = covering (extended ranges piece.store piece.at (piece.at + length piece.bytes)) pieces
