use Rattle.std.proofs.Common.{◌≤◌, ◌<◌, ◌+◌, ℕ, length, drop, get_or, sym, ap, rules, ◌∙◌, arith, length-drop}
use Rattle.std.proofs.lemmas.List.{at_drop_all, drop_more}
use Rattle.std.proofs.lemmas.List.Elements.{All-from_get_or}
use Rattle.byteorder.specs.Endian.{little_bytes}
use Rattle.var_types.proofs.Placed.{placed_more, placed_none}
use Rattle.var_types.specs.Placed.{placed}
use Rattle.var_region.proofs.NewRecords.{length-unit_bytes}
use Rattle.var_region.specs.NewRecord.{unit_bytes}
use Rattle.var_region.proofs.appending.write_units.Goals as goal

pub loop-unit-preserved : goal.loop-unit-preserved
loop-unit-preserved c =
    let units = c.args.units.now in
    let i = c.loop-unit.unit-index in
    let unit = get_or units i 0 in
    let rest = unit_bytes (drop (i + 1) units) in
    let next = c.loop-unit.invariant.next in
    let within = c.loop-unit-test.true in
    let room : c.loop-unit.next + 2 + length rest ≤ length c.loop-unit.bytes =
    omega (arith, length-unit_bytes (drop (i + 1) units), length-drop (i + 1) units, c.requires, c.loop-unit.invariant.len) in
    record {
      next = omega arith;
      len = c.write_at.auto.bytes ∙ c.loop-unit.invariant.len;
      bytes = ap (placed (c.loop-unit.next + 2) rest) c.write_at.ensures
          ∙ ap (λ piece. placed (c.loop-unit.next + 2) rest (placed c.loop-unit.next piece c.loop-unit.bytes)) c.to_le_bytes.ensures
          ∙ placed_more c.loop-unit.next (c.loop-unit.next + 2) (little_bytes 2 unit) rest c.loop-unit.bytes (omega arith) room
          ∙ ap (λ left. placed c.loop-unit.next (unit_bytes left) c.loop-unit.bytes) (sym (drop_more units i 0 within))
          ∙ c.loop-unit.invariant.bytes;
    }

pub returns-clause-bytes : goal.returns-clause-bytes
returns-clause-bytes c =
    sym (placed_none c.loop-unit.next c.loop-unit.bytes)
    ∙ ap (λ left. placed c.loop-unit.next (unit_bytes left) c.loop-unit.bytes) (sym (at_drop_all (λ left. left) c.args.units.now c.loop-unit.unit-index c.loop-unit-test.false))
    ∙ c.loop-unit.invariant.bytes

pub returns-clause-units : goal.returns-clause-units
returns-clause-units c =
    let units = c.args.units.now in
    let small : (k : ℕ) → k < length units → get_or units k 0 < 65536 = search rules in
    All-from_get_or (λ unit. unit < 65536) units 0 small
