use Rattle.std.proofs.Common.{ℕ, List, [], ◌++◌, ◌∙◌, ap, refl, sym}
use Rattle.hex.specs.Hex.{encode_lower}
use Rattle.report_text.specs.Flow.{PutsThrough-joined, PutsThrough-none}
use Rattle.var_types.proofs.Pieces.{encode_lower-append, encode_lower-nil, next_front, whole_front}
use Rattle.report_text.proofs.Puts.{puts_same}
use Rattle.report_text.proofs.outlet.Outlet.push_pieces.Goals as goal

pub pieces-init : goal.pieces-init
pieces-init g c = record {
  put = ([], refl, puts_same _ _ _ _ (sym encode_lower-nil) (PutsThrough-none _));
  same_sink = refl;
  same_page = refl;
}

pub pieces-preserved : goal.pieces-preserved
pieces-preserved g c =
    let front : List ℕ = c.pieces.invariant.put.0 in
    let piece : List ℕ = c.split_at.result.0.now in
    record {
      put = (
        front ++ piece,
        next_front front c.pieces.rest.now c.args.bytes.now piece c.split_at.result.1.now c.min.result c.pieces.invariant.put.1 c.split_at.ensures.front c.split_at.ensures.back,
        puts_same _ _ _ _ (sym (encode_lower-append front piece))
            (PutsThrough-joined _ _ _ _ _ c.pieces.invariant.put.2 c.push_piece.ensures.pushed),
      );
      same_sink = c.push_piece.ensures.same_sink ∙ c.pieces.invariant.same_sink;
      same_page = c.push_piece.ensures.same_page ∙ c.pieces.invariant.same_page;
    }

pub returns-clause-pushed : goal.returns-clause-pushed
returns-clause-pushed g c =
    puts_same _ _ _ _
    (ap encode_lower
    (whole_front c.pieces.invariant.put.0 c.pieces.rest.now c.args.bytes.now c.pieces.invariant.put.1 c.pieces-test.ensures))
    c.pieces.invariant.put.2
