use Rattle.std.specs.Prelude.{ℕ, zero, suc, ◌+◌, List, [], ◌∷◌, ◌++◌, length, get_or, nat_le, nat_lt, if◌then◌else◌, Option, Some, None, Result, Ok, Err}
use Rattle.std.specs.Str.Lines.{lines}
use Rattle.var_types.specs.declared.call.Call.{Call}
use Rattle.script_text.specs.declared.script_fault.ScriptFault.{ScriptFault}
use Rattle.script_text.specs.declared.script_fault.ScriptFault.TheVariants.{Line, TooLong, TooManyCalls}
use Rattle.script_text.specs.declared.line_reason.LineReason.{LineReason}
use Rattle.script_text.specs.Words.{◌>>=◌, line_call}

-- the most bytes of a script (this project's own)
abbrev pub most_script_bytes : ℕ
most_script_bytes = 1048576

-- the most calls of a processor (this project's own)
abbrev pub most_calls : ℕ
most_calls = 20000

-- the calls of all processors with one more at the end of this processor's; processors before it that had none are there with none
abbrev pub with_call : List (List Call) → ℕ → Call → List (List Call)
with_call [] zero call = (call ∷ []) ∷ []
with_call [] (suc processor) call = [] ∷ with_call [] processor call
with_call (calls ∷ rest) zero call = (calls ++ call ∷ []) ∷ rest
with_call (calls ∷ rest) (suc processor) call = calls ∷ with_call rest processor call

-- the calls of all processors behind a call, where its processor may have one more (this project's own)
abbrev pub after_call : List (List Call) → ℕ → Call → Result (List (List Call)) ScriptFault
after_call before processor call =
    if nat_le most_calls (length (get_or before processor [])) then Err (TooManyCalls processor most_calls)
    else Ok (with_call before processor call)

-- the calls of all processors behind a line; a bad one is refused by its number (this project's own)
abbrev pub after_line : ℕ → List (List Call) → Result (Option (ℕ × Call)) LineReason → Result (List (List Call)) ScriptFault
after_line number before (Err reason) = Err (Line number reason)
after_line number before (Ok None) = Ok before
after_line number before (Ok (Some line)) = after_call before line.0 line.1

-- the calls of all processors behind lines that are numbered from here on, or the first refusal (this project's own)
unfoldable pub calls_from : ℕ → List (List Call) → List (List ℕ) → Result (List (List Call)) ScriptFault
calls_from number before [] = Ok before
calls_from number before (line ∷ rest) = after_line number before (line_call line) >>= λ after. calls_from (number + 1) after rest

-- the calls of a script by processor, or its first refusal: too many bytes; then, line by line, a bad line or a call too many of its
-- processor (this project's own)
unfoldable pub script_of : List ℕ → Result (List (List Call)) ScriptFault
script_of text =
    if nat_lt most_script_bytes (length text) then Err (TooLong most_script_bytes) else calls_from 1 ([] ∷ []) (lines text)
