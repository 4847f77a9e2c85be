use Rattle.std.proofs.Common.{◌≡◌, ◌∙◌, ap, sym}
use Rattle.var_types.specs.WorkArea.{state_from, work_state}
use Rattle.var_types.proofs.WorkAreas.{few_slots, marked_state}
use Rattle.ftw_work.proofs.work_area.state.Goals as goal

pub returns-clause-slots : goal.returns-clause-slots
returns-clause-slots c =
    let marked = sym c.starts_with.ensures.value ∙ c.if-not-starts_with.false in
    let says : work_state c.args.bytes.now ≡ c.state_of_slots.result =
    marked_state c.args.bytes.now marked ∙ sym (c.state_of_slots.ensures ∙ ap (state_from 255 0) c.behind.ensures) in
    few_slots c.args.bytes.now c.state_of_slots.result c.requires says
