-- The lines of calls, where they end with their text and where they end at a schedule.
use Rattle.std.proofs.Common.{◌≡◌, ℕ, Bool, true, false, ltb, List, [], ◌∷◌, length, Ok, Err, refl, ap, if◌then◌else◌}
use Rattle.std.specs.Str.Lines.{lines}
use Rattle.var_types.specs.declared.call.Call.{Call}
use Rattle.script_text.specs.declared.calls_end.CallsEnd.{CallsEnd}
use Rattle.script_text.specs.declared.calls_end.CallsEnd.TheVariants as until
use Rattle.script_text.specs.declared.script_fault.ScriptFault.TheVariants.{TooLong}
use Rattle.script_text.specs.CallLines.{calls_until, lines_before, lines_behind}
use Rattle.script_text.specs.Schedule.{begins_schedule, call_lines, schedule_lines}
use Rattle.script_text.specs.Script.{calls_from, most_script_bytes, script_of}
use Rattle.script_text.proofs.FewCalls.{AreFew, calls_from-few, none_are_few}

-- all lines of a text
lines_before-text : (texts : List (List ℕ)) → lines_before until.Text texts ≡ texts
unfolding lines_before
lines_before-text [] = refl
lines_before-text (text ∷ texts) = ap (λ (ts : List (List ℕ)). text ∷ ts) (lines_before-text texts)

pub calls_until-text : (text : List ℕ) → calls_until until.Text text ≡ script_of text
unfolding calls_until script_of
calls_until-text text = rw (lines_before-text (lines text)) refl

-- the lines before the schedule, and those of the schedule
pub lines_before-schedule : (texts : List (List ℕ)) → lines_before until.Schedule texts ≡ call_lines texts
unfolding lines_before call_lines
lines_before-schedule [] = refl
lines_before-schedule (text ∷ texts) =
    ap (λ (ts : List (List ℕ)). if begins_schedule text then [] else text ∷ ts) (lines_before-schedule texts)

pub lines_behind-schedule : (texts : List (List ℕ)) → lines_behind until.Schedule texts ≡ schedule_lines texts
unfolding lines_behind schedule_lines
lines_behind-schedule [] = refl
lines_behind-schedule (text ∷ texts) =
    ap (λ (ts : List (List ℕ)). if begins_schedule text then texts else ts) (lines_behind-schedule texts)

-- the processors of a text are few
pub calls_until-few : (end : CallsEnd) (text : List ℕ) (calls : List (List Call)) → calls_until end text ≡ Ok calls → AreFew calls
unfolding calls_until
calls_until-few end text calls h = by (ltb most_script_bytes (length text)) h
  where
    by : (long : Bool) → (if long then Err (TooLong most_script_bytes) else calls_from 1 ([] ∷ []) (lines_before end (lines text))) ≡ Ok calls → AreFew calls
    by true h = cc
    by false h = calls_from-few 1 ([] ∷ []) calls (lines_before end (lines text)) none_are_few h
