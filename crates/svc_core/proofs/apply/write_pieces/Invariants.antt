use Rattle.std.proofs.Common.{◌≡◌, take}
use Rattle.var_trace.specs.Pieces.{with_pieces}
use Rattle.var_types.specs.Stores.{HaveSizes}
use Rattle.svc_core.proofs.apply.write_pieces.Given as goal

abbrev pub invariant-loop-piece : goal.invariant-loop-piece
invariant-loop-piece l = record {
  is : l.stores ≡ with_pieces l.initial.stores (take l.piece-index l.pieces);
  sizes : HaveSizes l.stores;
}
