use Rattle.std.proofs.Common.{◌≡◌, ◌-◌, ◌*◌, length}
use Rattle.var_types.specs.WorkArea.{state_from}
use Rattle.ftw_work.proofs.work_area.state_of_slots.Given as goal

abbrev pub invariant-loop-done : goal.invariant-loop-done
invariant-loop-done l = record {
  says : state_from (255 - l.done) l.done l.rest ≡ state_from 255 0 l.slots;
  left : length l.rest ≡ 4080 - 16 * l.done;
}
