use Rattle.std.proofs.Common.{◌≡◌, ◌≤◌, ◌<◌, ◌++◌, min, length, take, sym, ap, subst, arith, length-append}
use Rattle.std.proofs.lemmas.List.{length-take}
use Rattle.std.specs.Io.KnownBytes.{Consumes}
use Rattle.varsvc.proofs.Inputs.{Consumes-append, IsInput-end, IsInput-full}
use Rattle.varsvc.proofs.input.read_pieces.Goals as goal

pub returns-then-branch-eq0-clause-bytes : goal.returns-then-branch-eq0-clause-bytes
returns-then-branch-eq0-clause-bytes g c =
    let left = g.S.Source.left in
    let source = c.read_piece.new.source in
    let so_far = c.pieces.input in
    let new = c.read_piece.new.input in
    let came = c.in_ok-read_piece.ensures.bytes in
    let seen : length c.as_slice.result.now ≡ length so_far = ap length c.as_slice.ensures.items in
    let room : length (take c.min-room.result c.pieces.piece) ≡ min c.min-room.result (length c.pieces.piece) =
    length-take c.min-room.result c.pieces.piece in
    let seen_again : length c.as_slice-in-pieces.result.now ≡ length so_far = ap length c.as_slice-in-pieces.ensures.items in
    let asked : 0 < length (take c.min-room.result c.pieces.piece) =
    omega (arith, room, c.min-room.ensures, c.pieces-test.true, seen, seen_again, c.pieces.auto.piece, c.requires) in
    IsInput-end (left c.args.source.now) (left source) new
    (subst (Consumes (left c.args.source.now) (left source)) (sym came.3) (
    Consumes-append (left c.args.source.now) (left c.pieces.source) (left source) so_far came.0 c.pieces.invariant.bytes came.2))
    (c.in_ok-read_piece.ensures.end c.if-branch-eq0.true asked)
    (let len : length new ≡ length (so_far ++ came.0) = ap length came.3 in
    omega (arith, len, length-append so_far came.0, came.1, c.if-branch-eq0.true, c.pieces.invariant.within))

pub returns-clause-bytes : goal.returns-clause-bytes
returns-clause-bytes g c =
    IsInput-full (g.S.Source.left c.args.source.now) (g.S.Source.left c.pieces.source) c.pieces.input c.pieces.invariant.bytes
    (let seen : length c.as_slice.result.now ≡ length c.pieces.input = ap length c.as_slice.ensures.items in
    omega (arith, c.pieces-test.false, c.pieces.invariant.within, seen))

pub returns-in_err-read_piece-clause-taken : goal.returns-in_err-read_piece-clause-taken
returns-in_err-read_piece-clause-taken g c =
    let left = g.S.Source.left in
    let so_far = c.pieces.input in
    let came = c.read_piece.ensures.taken in
    let seen : length c.as_slice.result.now ≡ length so_far = ap length c.as_slice.ensures.items in
    let seen_again : length c.as_slice-in-pieces.result.now ≡ length so_far = ap length c.as_slice-in-pieces.ensures.items in
    let room : length (take c.min-room.result c.pieces.piece) ≡ min c.min-room.result (length c.pieces.piece) =
    length-take c.min-room.result c.pieces.piece in
    let few : length (so_far ++ came.0) ≤ 1048577 =
    omega (arith, length-append so_far came.0, came.1, room, c.min-room.ensures, c.pieces-test.true, seen, seen_again, c.pieces.invariant.within) in
    (so_far ++ came.0, few, Consumes-append (left c.args.source.now) (left c.pieces.source) (left c.read_piece.new.source) so_far came.0 c.pieces.invariant.bytes came.2)

pub returns-then-branch-eq0-clause-taken : goal.returns-then-branch-eq0-clause-taken
returns-then-branch-eq0-clause-taken g c =
    let left = g.S.Source.left in
    let so_far = c.pieces.input in
    let came = c.read_piece.ensures.taken in
    let seen : length c.as_slice.result.now ≡ length so_far = ap length c.as_slice.ensures.items in
    let seen_again : length c.as_slice-in-pieces.result.now ≡ length so_far = ap length c.as_slice-in-pieces.ensures.items in
    let room : length (take c.min-room.result c.pieces.piece) ≡ min c.min-room.result (length c.pieces.piece) =
    length-take c.min-room.result c.pieces.piece in
    let few : length (so_far ++ came.0) ≤ 1048577 =
    omega (arith, length-append so_far came.0, came.1, room, c.min-room.ensures, c.pieces-test.true, seen, seen_again, c.pieces.invariant.within) in
    (so_far ++ came.0, few, Consumes-append (left c.args.source.now) (left c.pieces.source) (left c.read_piece.new.source) so_far came.0 c.pieces.invariant.bytes came.2)
