use Rattle.std.proofs.Common.{◌+◌, ◌*◌, ◌++◌, ◌∷◌, [], length, ap, ◌∙◌, arith, length-append}
use Rattle.var_types.proofs.Placed.{placed_more}
use Rattle.var_types.specs.Placed.{placed}
use Rattle.var_region.proofs.NewRecords.{length-unit_bytes}
use Rattle.var_region.specs.NewRecord.{new_body, unit_bytes}
use Rattle.var_region.proofs.appending.append_body.Goals as goal

pub returns-clause-bytes : goal.returns-clause-bytes
unfolding new_body
returns-clause-bytes c =
    let bytes = c.args.bytes.now in
    let name = unit_bytes c.args.new.now.name.now in
    let units = length-unit_bytes c.args.new.now.name.now in
    let from = c.args.at + 60 in
    let nul = from + 2 * length c.args.new.now.name.now in
    let payload = c.args.new.now.payload.now in
    c.write_at-2.ensures
    ∙ ap (placed (nul + 2) payload) (c.write_at.ensures ∙ ap (placed nul (0 ∷ 0 ∷ [])) c.write_units.ensures.bytes ∙ placed_more from nul name (0 ∷ 0 ∷ []) bytes (omega arith) (omega (arith, c.requires.room)))
    ∙ placed_more from (nul + 2) (name ++ (0 ∷ 0 ∷ [])) payload bytes (omega (arith, length-append name (0 ∷ 0 ∷ []))) (omega (arith, c.requires.room))
