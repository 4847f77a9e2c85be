use Rattle.std.proofs.Common.{◌≡◌, ◌+◌, ◌-◌, length, take, drop, ap, subst, arith}
use Rattle.std.proofs.lemmas.Result.{on_ok_weaker}
use Rattle.ftw_work.proofs.Steps.{image_sized, program_outside}
use Rattle.var_region.proofs.NewRecords.{length-new_body}
use Rattle.var_region.specs.NewRecord.{new_body, new_size}
use Rattle.var_types.specs.Placed.{IsOutsideKept}
use Rattle.nv_store.proofs.Pieces.{piece_is, piece_told}
use Rattle.nv_store.proofs.Stepping.{program_steps}
use Rattle.nv_store.proofs.adding.write_body.Goals as goal

pub returns-clause-mirrored : goal.returns-clause-mirrored
returns-clause-mirrored g c =
    let at = c.args.at + 60 in
    let n = c.args.at + c.size_of.result - at in
    let body = new_body c.args.new.now in
    let size = length-new_body c.args.new.now in
    let is_size = c.size_of.ensures.size in
    let same : n ≡ length body = omega arith in
    on_ok_weaker c.program_piece.result
    (piece_told at n body c.args.bytes.now c.append_body.new.bytes c.append_body.ensures.bytes same (omega arith) (g.F.Flash.holds c.args.flash.now)
    (g.F.Flash.holds c.program_piece.new.flash) (omega arith) (omega arith) c.program_piece.ensures.bytes c.requires.clean
    (image_sized _ _ c.requires.size (g.met.F.Flash.sized c.args.flash.now)) c.requires.mirrored c.program_piece.ensures.at_any_moment.now)
    c.program_piece.ensures.programmed

pub returns-clause-at_any_moment : goal.returns-clause-at_any_moment
returns-clause-at_any_moment g c =
    let at = c.args.at + 60 in
    let n = c.args.at + c.size_of.result - at in
    let body = new_body c.args.new.now in
    let bytes = c.append_body.new.bytes in
    let piece = take n (drop at bytes) in
    let size = length-new_body c.args.new.now in
    let is_size = c.size_of.ensures.size in
    let same : n ≡ length body = omega arith in
    let is = piece_is at n body c.args.bytes.now bytes c.append_body.ensures.bytes same (omega arith) in
    let long : length piece ≡ length body = ap length is in
    let end : at + length piece ≡ c.args.at + new_size c.args.new.now = omega arith in
    program_steps at piece c.args.bytes.now (IsOutsideKept at (c.args.at + new_size c.args.new.now) c.args.bytes.now) _ _ (omega arith) (omega arith) c.requires.mirrored
    (λ v left. subst (λ to. IsOutsideKept at to c.args.bytes.now v) end (program_outside at piece c.args.bytes.now v left))
    c.program_piece.ensures.at_any_moment
