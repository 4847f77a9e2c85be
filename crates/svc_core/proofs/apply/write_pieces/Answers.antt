use Rattle.std.proofs.Common.{ap, sym, ◌∙◌, ◌++◌, ◌∷◌, [], take}
use Rattle.std.proofs.lemmas.List.{take_all, take_more}
use Rattle.var_trace.specs.declared.piece.Piece.{Piece}
use Rattle.var_trace.specs.Pieces.{with_piece, with_pieces}
use Rattle.var_types.specs.Stores.{Stores}
use Rattle.svc_core.proofs.Coverings.{with_pieces-more}
use Rattle.svc_core.proofs.apply.write_pieces.Goals as goal

pub loop-piece-preserved : goal.loop-piece-preserved
loop-piece-preserved c =
    let items = c.args.pieces.now in
    let i = c.loop-piece.piece-index in
    let item : Piece = c.piece-item.result in
    let one = take_more items i item c.loop-piece-test.true ∙ ap (λ (x : Piece). take i items ++ x ∷ []) (sym c.piece-item.is) in
    record {
      is =
          c.write_piece.ensures.is ∙ ap (λ (s : Stores). with_piece s item) c.loop-piece.invariant.is
          ∙ sym (with_pieces-more c.args.stores.now (take i items) item)
          ∙ ap (with_pieces c.args.stores.now) (sym one);
      sizes = c.write_piece.ensures.sizes;
    }

pub returns : goal.returns
returns c =
    c.loop-piece.invariant.is
    ∙ ap (with_pieces c.args.stores.now) (take_all c.loop-piece.piece-index c.args.pieces.now c.loop-piece-test.false)
