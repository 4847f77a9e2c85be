use Rattle.std.proofs.Common.{ap, sym, ◌∙◌}
use Rattle.std.specs.Prelude.{set}
use Rattle.std.proofs.lemmas.List.Edits.{map_over_more}
use Rattle.var_trace.specs.declared.piece.Piece.{Piece}
use Rattle.var_trace.specs.Pieces.{refreshed}
use Rattle.var_trace.proofs.delta.refresh_all.Goals as goal

pub loop-piece-preserved : goal.loop-piece-preserved
loop-piece-preserved c =
    let piece : Piece = c.piece-item.result in
    ap (set c.loop-piece.pieces c.loop-piece.piece-index) (c.refresh.ensures ∙ ap (refreshed c.args.bytes.now) (sym c.piece-item.is))
    ∙ map_over_more (refreshed c.args.bytes.now) c.args.pieces.now c.loop-piece.pieces c.loop-piece.piece-index piece c.loop-piece-test.true
    c.loop-piece.invariant c.piece-item.is
