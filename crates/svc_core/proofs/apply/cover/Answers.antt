use Rattle.std.proofs.Common.{ℕ, List, ap, sym, ◌∙◌, ◌+◌, ◌++◌, ◌∷◌, [], length, take}
use Rattle.std.proofs.lemmas.List.{take_all, take_more}
use Rattle.pending_range.specs.declared.ranges.Ranges.{Ranges}
use Rattle.pending_range.specs.Ranges.{extended}
use Rattle.var_trace.specs.declared.piece.Piece.{Piece}
use Rattle.svc_core.specs.Ranges.{covering}
use Rattle.svc_core.proofs.Coverings.{covering_more, covering_none}
use Rattle.svc_core.proofs.apply.cover.Goals as goal

pub loop-piece-init : goal.loop-piece-init
loop-piece-init c = sym (covering_none c.args.ranges.now)

pub loop-piece-preserved : goal.loop-piece-preserved
loop-piece-preserved c =
    let items = c.pieces-piece-items.result.now in
    let i = c.loop-piece.piece-index in
    let item : Piece = c.piece-item.result in
    let one = take_more items i item c.loop-piece-test.true ∙ ap (λ (x : Piece). take i items ++ x ∷ []) (sym c.piece-item.is) in
    c.extend.ensures.is
    ∙ ap (λ (bytes : List ℕ). extended c.loop-piece.ranges item.store item.at (item.at + length bytes)) c.as_slice.ensures.items
    ∙ ap (λ (r : Ranges). extended r item.store item.at (item.at + length item.bytes)) c.loop-piece.invariant
    ∙ sym (covering_more c.args.ranges.now (take i items) item)
    ∙ ap (covering c.args.ranges.now) (sym one)

pub returns : goal.returns
returns c =
    c.loop-piece.invariant
    ∙ ap (covering c.args.ranges.now)
    (take_all c.loop-piece.piece-index c.pieces-piece-items.result.now c.loop-piece-test.false ∙ c.pieces-piece-items.ensures)
