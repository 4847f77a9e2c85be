use Rattle.std.proofs.Common.{◌+◌, [], ap, ◌∙◌, arith}
use Rattle.var_header.proofs.Headers.{length-header_bytes}
use Rattle.var_header.specs.Header.{header_bytes}
use Rattle.var_types.proofs.Placed.{placed_more}
use Rattle.var_types.specs.Placed.{placed}
use Rattle.var_region.proofs.NewRecords.{IsHeader-new, length-new_body}
use Rattle.var_region.specs.NewRecord.{AreValues, new_body, new_bytes, new_header}
use Rattle.var_region.proofs.appending.append.Goals as goal

pub returns-clause-bytes : goal.returns-clause-bytes
unfolding new_bytes
returns-clause-bytes c =
    let new = c.args.new.now in
    let header = new_header 0x3F new in
    let values : AreValues new = record { units = c.append_body.ensures.units; stamp = c.append_header.ensures.stamp; guid = c.append_header.ensures.guid } in
    let is = IsHeader-new 0x3F new (omega arith) (record { can = c.requires.new; values = values }) in
    c.append_body.ensures.bytes
    ∙ ap (placed (c.args.at + 60) (new_body new)) c.append_header.ensures.bytes
    ∙ placed_more c.args.at (c.args.at + 60) (header_bytes header) (new_body new) c.args.bytes.now (omega (arith, length-header_bytes header [] is)) (omega (arith, length-new_body new, c.requires.room))
