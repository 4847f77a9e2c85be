use Rattle.std.proofs.Common.{◌≡◌, length}
use Rattle.std.specs.List.{list_all}
use Rattle.std.specs.Str.Lines.{lines}
use Rattle.script_text.specs.Schedule.{is_passed}
use Rattle.script_text.proofs.schedule_lines.all_passed.Given as goal

abbrev pub invariant-passed : goal.invariant-passed
invariant-passed l = list_all is_passed (lines l.rest) ≡ list_all is_passed (lines l.text)

abbrev pub decreases-passed : goal.decreases-passed
decreases-passed l = length l.rest
