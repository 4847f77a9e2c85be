use Rattle.std.proofs.Common.{◌≡◌, ◌+◌, ◌-◌, [], length, take, drop, get_or, ap, ◌∙◌, arith}
use Rattle.std.proofs.lemmas.Result.{on_ok_weaker}
use Rattle.ftw_work.proofs.Steps.{image_sized}
use Rattle.var_header.proofs.Headers.{length-header_bytes}
use Rattle.var_header.specs.Header.{header_bytes}
use Rattle.var_region.proofs.NewRecords.{IsHeader-new}
use Rattle.var_region.specs.NewRecord.{new_header}
use Rattle.nv_store.specs.StepsLeft.{IsHeaderTorn}
use Rattle.nv_store.proofs.Pieces.{piece_is, piece_told, state_byte_of, torn_header}
use Rattle.nv_store.proofs.Stepping.{program_steps}
use Rattle.nv_store.proofs.adding.write_header.Goals as goal

pub returns-clause-mirrored : goal.returns-clause-mirrored
returns-clause-mirrored g c =
    let at = c.args.at in
    let n = at + 60 - at in
    let header = header_bytes (new_header 0xFF c.args.new.now) in
    let size : length header ≡ 60 = length-header_bytes (new_header 0xFF c.args.new.now) [] (IsHeader-new 0xFF c.args.new.now (omega arith) c.requires.new) in
    let same : n ≡ length header = omega arith in
    on_ok_weaker c.program_piece.result
    (piece_told at n header c.args.bytes.now c.append_header.new.bytes c.append_header.ensures.bytes same (omega arith) (g.F.Flash.holds c.args.flash.now)
    (g.F.Flash.holds c.program_piece.new.flash) c.requires.low (omega arith) c.program_piece.ensures.bytes c.requires.clean
    (image_sized _ _ c.requires.size (g.met.F.Flash.sized c.args.flash.now)) c.requires.mirrored c.program_piece.ensures.at_any_moment.now)
    c.program_piece.ensures.programmed

pub returns-clause-at_any_moment : goal.returns-clause-at_any_moment
returns-clause-at_any_moment g c =
    let at = c.args.at in
    let n = at + 60 - at in
    let header = header_bytes (new_header 0xFF c.args.new.now) in
    let bytes = c.append_header.new.bytes in
    let piece = take n (drop at bytes) in
    let size : length header ≡ 60 = length-header_bytes (new_header 0xFF c.args.new.now) [] (IsHeader-new 0xFF c.args.new.now (omega arith) c.requires.new) in
    let same : n ≡ length header = omega arith in
    let is = piece_is at n header c.args.bytes.now bytes c.append_header.ensures.bytes same (omega arith) in
    let long : length piece ≡ 60 = ap length is ∙ size in
    program_steps at piece c.args.bytes.now (IsHeaderTorn at c.args.bytes.now) _ _ c.requires.low (omega arith) c.requires.mirrored
    (λ v left. torn_header at piece c.args.bytes.now v c.requires.clean long (omega arith) (ap (λ p. get_or p 2 0) is ∙ state_byte_of (new_header 0xFF c.args.new.now)) left)
    c.program_piece.ensures.at_any_moment
