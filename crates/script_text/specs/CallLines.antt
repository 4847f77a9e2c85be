-- The lines of calls: all lines of a text, or those before its schedule.
use Rattle.std.specs.Prelude.{ℕ, Bool, false, List, [], ◌∷◌, length, nat_lt, if◌then◌else◌, Result, Err}
use Rattle.std.specs.Str.Lines.{lines}
use Rattle.var_types.specs.declared.call.Call.{Call}
use Rattle.script_text.specs.declared.calls_end.CallsEnd.{CallsEnd}
use Rattle.script_text.specs.declared.calls_end.CallsEnd.TheVariants as until
use Rattle.script_text.specs.declared.script_fault.ScriptFault.{ScriptFault}
use Rattle.script_text.specs.declared.script_fault.ScriptFault.TheVariants.{TooLong}
use Rattle.script_text.specs.Schedule.{begins_schedule}
use Rattle.script_text.specs.Script.{calls_from, most_script_bytes}

-- whether the lines of calls end at a line
abbrev pub ends_at : CallsEnd → List ℕ → Bool
ends_at until.Text line = false
ends_at until.Schedule line = begins_schedule line

-- the lines before that one, and those behind it
unfoldable pub lines_before : CallsEnd → List (List ℕ) → List (List ℕ)
lines_before end [] = []
lines_before end (line ∷ rest) = if ends_at end line then [] else line ∷ lines_before end rest

unfoldable pub lines_behind : CallsEnd → List (List ℕ) → List (List ℕ)
lines_behind end [] = []
lines_behind end (line ∷ rest) = if ends_at end line then rest else lines_behind end rest

-- the calls of the lines of a text, or the first refusal
unfoldable pub calls_until : CallsEnd → List ℕ → Result (List (List Call)) ScriptFault
calls_until end text =
    if nat_lt most_script_bytes (length text) then Err (TooLong most_script_bytes)
    else calls_from 1 ([] ∷ []) (lines_before end (lines text))
