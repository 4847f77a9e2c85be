-- Schedules: in which order processors take their steps, and where power is lost.
use Rattle.std.specs.Prelude.{ℕ, ◌+◌, ◌==◌, ◌||◌, not, Bool, false, List, [], ◌∷◌, length, codes, nat_lt, if◌then◌else◌, Option, Some, None, Result, Ok, Err}
use Rattle.std.specs.List.{list_all}
use Rattle.std.specs.Str.Lines.{lines}
use Rattle.var_types.specs.declared.call.Call.{Call}
use Rattle.script_text.specs.declared.line_reason.LineReason.{LineReason}
use Rattle.script_text.specs.declared.line_reason.LineReason.TheVariants as reason
use Rattle.script_text.specs.declared.play_fault.PlayFault.{PlayFault}
use Rattle.script_text.specs.declared.play_fault.PlayFault.TheVariants.{Line, TooLong, Actor}
use Rattle.script_text.specs.declared.power_loss.PowerLoss.{PowerLoss}
use Rattle.script_text.specs.declared.power_loss.PowerLoss.TheVariants as loss
use Rattle.script_text.specs.declared.schedule_line.ScheduleLine.{ScheduleLine}
use Rattle.script_text.specs.declared.schedule_line.ScheduleLine.TheVariants as line
use Rattle.script_text.specs.declared.script_fault.ScriptFault.{ScriptFault}
use Rattle.script_text.specs.declared.turn.Turn.{Turn}
use Rattle.script_text.specs.declared.turn.Turn.TheVariants as turn
use Rattle.script_text.specs.Lines.{is_comment, is_text, words_of}
use Rattle.script_text.specs.Numbers.{number_of}
use Rattle.script_text.specs.PlayFaults.{as_play_fault}
use Rattle.script_text.specs.Script.{calls_from, most_script_bytes}
use Rattle.script_text.specs.Words.{◌>>=◌, is_word}

-- a schedule: the turns of processors in their order, and how power is lost behind them, if it is (this project's own)
pub record ScheduleParts : Type 0 where
  pub turns : List Turn
  pub power : Option PowerLoss

-- the calls of each processor, and the schedule of their steps (this project's own)
pub record PlayParts : Type 0 where
  pub calls : List (List Call)
  pub schedule : ScheduleParts

-- a schedule in which no step is taken
abbrev pub no_turns : ScheduleParts
no_turns = record { turns = []; power = None }

-- what a word says of a loss of power (this project's own)
unfoldable pub loss_of : List ℕ → Result PowerLoss LineReason
loss_of word =
    if is_word (codes "before") word then Ok loss.Before
    else if is_word (codes "half") word then Ok loss.Half
    else if is_word (codes "after") word then Ok loss.After
    else Err reason.Schedule

-- a number of a schedule; what is none makes the line one of no form (this project's own)
abbrev pub schedule_number : Result ℕ LineReason → Result ℕ LineReason
schedule_number (Ok number) = Ok number
schedule_number (Err e) = Err reason.Schedule

-- a turn of a processor: to the end of its call, or of so many steps (this project's own)
unfoldable pub turn_of : ℕ → List ℕ → Result ScheduleLine LineReason
turn_of processor word =
    if is_word (codes "end") word then Ok (line.End processor)
    else (schedule_number (number_of word) >>= λ count. Ok (line.Steps processor count))

-- the two words of a line of a schedule (this project's own)
unfoldable pub two_words : List ℕ → List ℕ → Result ScheduleLine LineReason
two_words first second =
    if is_word (codes "power") first then (loss_of second >>= λ loss. Ok (line.Power loss))
    else (schedule_number (number_of first) >>= λ processor. turn_of processor second)

-- the words of a line of a schedule: none, or two (this project's own)
unfoldable pub schedule_words : List (List ℕ) → Result (Option ScheduleLine) LineReason
schedule_words [] = Ok None
schedule_words (first ∷ second ∷ []) = two_words first second >>= λ said. Ok (Some said)
schedule_words _ = Err reason.Schedule

-- what a line of a schedule says, if it says something, or that it is of no form (this project's own)
unfoldable pub schedule_line : List ℕ → Result (Option ScheduleLine) LineReason
schedule_line text =
    if is_comment text then Ok None
    else if not (is_text text) then Err reason.Schedule
    else schedule_words (words_of text)

-- whether a line is passed over: a comment, or one without words
abbrev pub is_passed : List ℕ → Bool
is_passed text = is_comment text || (length (words_of text) == 0)

-- a turn before the later ones, where there is such a processor (this project's own)
abbrev pub with_turn : ℕ → ℕ → ℕ → Turn → Result ScheduleParts PlayFault → Result ScheduleParts PlayFault
with_turn number processors processor turn later =
    if nat_lt processor processors then (later >>= λ schedule. Ok (record schedule { turns = turn ∷ schedule.turns }))
    else Err (Actor number)

-- what a line of this number says, before the later lines and what they come to. Behind a loss of power each line is passed over (this project's own)
abbrev pub with_line : ℕ → ℕ → List (List ℕ) → Result ScheduleParts PlayFault → Result (Option ScheduleLine) LineReason → Result ScheduleParts PlayFault
with_line number processors rest later (Err e) = Err (Line number e)
with_line number processors rest later (Ok None) = later
with_line number processors rest later (Ok (Some (line.Steps processor count))) =
    with_turn number processors processor (turn.Steps processor count) later
with_line number processors rest later (Ok (Some (line.End processor))) = with_turn number processors processor (turn.End processor) later
with_line number processors rest later (Ok (Some (line.Power loss))) =
    if list_all is_passed rest then Ok (record { turns = []; power = Some loss }) else Err (Line number reason.Schedule)

-- the schedule of lines that are numbered from here on, for so many processors, or the first refusal (this project's own)
unfoldable pub schedule_from : ℕ → ℕ → List (List ℕ) → Result ScheduleParts PlayFault
schedule_from number processors [] = Ok no_turns
schedule_from number processors (text ∷ rest) =
    with_line number processors rest (schedule_from (number + 1) processors rest) (schedule_line text)

-- whether a schedule begins behind a line: its one word says so (this project's own)
abbrev pub is_schedule_word : List (List ℕ) → Bool
is_schedule_word (word ∷ []) = is_word (codes "schedule") word
is_schedule_word _ = false

unfoldable pub begins_schedule : List ℕ → Bool
begins_schedule text = is_schedule_word (words_of text)

-- the lines before the one behind which a schedule begins, and those behind it
unfoldable pub call_lines : List (List ℕ) → List (List ℕ)
call_lines [] = []
call_lines (text ∷ rest) = if begins_schedule text then [] else text ∷ call_lines rest

unfoldable pub schedule_lines : List (List ℕ) → List (List ℕ)
schedule_lines [] = []
schedule_lines (text ∷ rest) = if begins_schedule text then rest else schedule_lines rest

-- what a script finds, as a refusal of a script with a schedule
abbrev pub of_script : {A : Type 0} → Result A ScriptFault → Result A PlayFault
of_script (Ok x) = Ok x
of_script (Err e) = Err (as_play_fault e)

-- the calls of a text by processor, with the schedule of their steps, or its first refusal: too many bytes; then that of the lines before the schedule,
-- as of a script; then, line by line, that of the schedule (this project's own)
unfoldable pub play_of : List ℕ → Result PlayParts PlayFault
play_of text =
    if nat_lt most_script_bytes (length text) then Err (TooLong most_script_bytes)
    else of_script (calls_from 1 ([] ∷ []) (call_lines (lines text)))
    >>= λ calls. schedule_from (length (call_lines (lines text)) + 2) (length calls) (schedule_lines (lines text))
    >>= λ schedule. Ok (record { calls = calls; schedule = schedule })
