use Rattle.std.proofs.Common.{◌≡◌, ℕ, ◌+◌, false, List, Err, refl, sym, ap, ◌∙◌}
use Rattle.std.specs.Str.Lines.{lines}
use Rattle.script_text.specs.declared.line_reason.LineReason.TheVariants as reason
use Rattle.script_text.specs.declared.play_fault.PlayFault.TheVariants.{Line}
use Rattle.script_text.specs.declared.turn.Turn.{Turn}
use Rattle.script_text.specs.FirstLine.{HasBadLine}
use Rattle.script_text.specs.Lines.{is_comment, is_text}
use Rattle.script_text.specs.Schedule.{schedule_from, schedule_line, with_line}
use Rattle.script_text.specs.TurnRead.{before_schedule}
use Rattle.script_text.proofs.schedule_lines.read_schedule.Goals as goal

-- a bad line is of no form
bad_line : (line : List ℕ) → is_comment line ≡ false → is_text line ≡ false → schedule_line line ≡ Err reason.Schedule
unfolding schedule_line
bad_line line comment text = rw (comment, text) refl

-- so lines that begin with one are refused
bad_lines : (number processors : ℕ) (turns : List Turn) (text : List ℕ) → HasBadLine text
    → before_schedule turns (schedule_from number processors (lines text)) ≡ Err (Line number reason.Schedule)
unfolding schedule_from
bad_lines number processors turns text (line, later, is, comment, bad) =
    ap (λ (texts : List (List ℕ)). before_schedule turns (schedule_from number processors texts)) is
    ∙ ap (λ read. before_schedule turns (with_line number processors later (schedule_from (number + 1) processors later) read)) (bad_line line comment bad)

pub returns-in_default : goal.returns-in_default
returns-in_default c =
    (sym c.lines.invariant.one_schedule ∙ bad_lines c.lines.number c.args.processors c.lines.turns.items c.lines.rest.now c.in_default.ensures)
