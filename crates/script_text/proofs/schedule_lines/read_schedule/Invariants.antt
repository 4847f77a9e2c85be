use Rattle.std.proofs.Common.{◌≡◌, ◌+◌, ◌≤◌, length}
use Rattle.std.specs.Str.Lines.{lines}
use Rattle.script_text.specs.Schedule.{schedule_from}
use Rattle.script_text.specs.Script.{most_script_bytes}
use Rattle.script_text.specs.TurnRead.{before_schedule}
use Rattle.script_text.proofs.schedule_lines.read_schedule.Given as goal

abbrev pub invariant-lines : goal.invariant-lines
invariant-lines l = record {
  one_schedule :
      before_schedule l.turns.items (schedule_from l.number l.processors (lines l.rest)) ≡ schedule_from l.first l.processors (lines l.text);
  bounded : l.number + length l.rest ≤ most_script_bytes + 2;
}

abbrev pub decreases-lines : goal.decreases-lines
decreases-lines l = length l.rest
