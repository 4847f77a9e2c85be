-- Pieces of the stores' bytes.
use Rattle.std.specs.Prelude.{ℕ, ◌+◌, ◌≤◌, List, [], ◌∷◌, length, take, drop}
use Rattle.var_types.specs.declared.span.Span.{Span}
use Rattle.var_types.specs.declared.store.Store.{Store}
use Rattle.var_types.specs.Placed.{placed}
use Rattle.var_types.specs.Spans.{cut}
use Rattle.var_types.specs.Stores.{Stores, bytes_in, with_store}
use Rattle.var_trace.specs.declared.piece.Piece.{Piece}
use Rattle.var_trace.specs.StoreChange.{StoreChange}

-- the bytes of a range of a store (this project's own)
abbrev pub piece_of : Store → List ℕ → Span → Piece
piece_of store bytes span = record { store = store; at = span.from; bytes = cut span bytes }

-- a piece lies within so many bytes
abbrev pub IsWithin : ℕ → Piece → Type 0
IsWithin size piece = piece.at + length piece.bytes ≤ size

-- a piece with the bytes that stand at its place, as many as it has (this project's own)
abbrev pub refreshed : List ℕ → Piece → Piece
refreshed bytes piece = record piece { bytes = take (length piece.bytes) (drop piece.at bytes) }

-- the stores with a piece written into the one that it is of (this project's own)
unfoldable pub with_piece : Stores → Piece → Stores
with_piece stores piece = with_store stores piece.store (placed piece.at piece.bytes (bytes_in stores piece.store))

-- the same of pieces, one after the other
abbrev pub with_pieces : Stores → List Piece → Stores
with_pieces stores [] = stores
with_pieces stores (piece ∷ pieces) = with_pieces (with_piece stores piece) pieces

-- the stores after a change: its pieces are written, and its phase is theirs (this project's own)
unfoldable pub with_change : Stores → StoreChange → Stores
with_change stores change = record (with_pieces stores change.pieces) { runtime = change.phase }
