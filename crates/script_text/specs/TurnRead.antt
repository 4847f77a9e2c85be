-- Turns that were read, before the later lines.
use Rattle.std.specs.Prelude.{◌≡◌, ℕ, List, ◌++◌, Option, Some, None, Result, Ok, Err}
use Rattle.script_text.specs.declared.line_reason.LineReason.{LineReason}
use Rattle.script_text.specs.declared.play_fault.PlayFault.{PlayFault}
use Rattle.script_text.specs.declared.power_loss.PowerLoss.{PowerLoss}
use Rattle.script_text.specs.declared.schedule_line.ScheduleLine.{ScheduleLine}
use Rattle.script_text.specs.declared.schedule_line.ScheduleLine.TheVariants.{Power}
use Rattle.script_text.specs.declared.turn.Turn.{Turn}
use Rattle.script_text.specs.GivesPlay.{IsPlayRefusal}
use Rattle.script_text.specs.Schedule.{ScheduleParts, with_line}

-- turns before a schedule
abbrev pub before_schedule : List Turn → Result ScheduleParts PlayFault → Result ScheduleParts PlayFault
before_schedule turns (Ok schedule) = Ok (record schedule { turns = turns ++ schedule.turns })
before_schedule turns (Err e) = Err e

-- what was read of a line: with it these turns are those, whatever the later lines are, or power is lost
abbrev pub IsTurnRead : ℕ → ℕ → Result (Option ScheduleLine) LineReason → List Turn → List Turn → Option PowerLoss → Type 0
IsTurnRead number processors read old new None =
    (rest : List (List ℕ)) (later : Result ScheduleParts PlayFault)
    → before_schedule old (with_line number processors rest later read) ≡ before_schedule new later
IsTurnRead number processors read old new (Some loss) = (new ≡ old) × (read ≡ Ok (Some (Power loss)))

-- a line is refused, whatever the later lines are
abbrev pub IsLineRefused : ℕ → ℕ → Result (Option ScheduleLine) LineReason → PlayFault → Type 0
IsLineRefused number processors read e =
    (rest : List (List ℕ)) (later : Result ScheduleParts PlayFault) → IsPlayRefusal e (with_line number processors rest later read)
