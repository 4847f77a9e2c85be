use Rattle.std.specs.Prelude.{Bool, List}
use Rattle.var_trace.specs.declared.piece.Piece.{Piece}

-- what a change turned in the stores' bytes: the pieces as they are afterwards, and whether the phase is runtime then (this project's own)
pub record StoreChange : Type 0 where
  pub pieces : List Piece
  pub phase : Bool
