use Rattle.std.proofs.Common.{◌∙◌, ◌≡◌, ◌+◌, ◌-◌, length, arith, ap, length-drop, sym}
use Rattle.var_types.specs.WorkArea.{state_from}
use Rattle.var_types.proofs.WorkAreas.{all_slots, counts_slot, ends_slots}
use Rattle.ftw_work.proofs.work_area.state_of_slots.Goals as goal

pub returns-then-not-starts_with : goal.returns-then-not-starts_with
returns-then-not-starts_with c =
    let loop = c.loop-done in
    c.state_behind.ensures
    ∙ sym (ends_slots (255 - loop.done) loop.done loop.rest.now (sym c.starts_with.ensures.value ∙ c.if-not-starts_with.true))
    ∙ loop.invariant.says

pub loop-done-preserved : goal.loop-done-preserved
loop-done-preserved c =
    let loop = c.loop-done in
    record {
      says =
          ap (state_from (255 - (loop.done + 1)) (loop.done + 1)) c.behind-rest.ensures
          ∙ counts_slot loop.done loop.rest.now c.loop-done-test.true (sym c.starts_with.ensures.value ∙ c.if-not-starts_with.false)
          ∙ loop.invariant.says;
      left = ap length c.behind-rest.ensures ∙ omega (arith, length-drop 16 loop.rest.now, loop.invariant.left);
    }

pub returns : goal.returns
returns c =
    let loop = c.loop-done in
    let end : loop.done ≡ 255 = omega arith in
    c.state_behind-2.ensures ∙ sym (all_slots loop.done loop.rest.now end) ∙ loop.invariant.says
