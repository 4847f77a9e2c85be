use Rattle.std.proofs.Common.{◌≡◌, ℕ, ◌+◌, false, List, ◌∷◌, Err, refl, sym, ap, ◌∙◌}
use Rattle.std.specs.Str.Lines.{lines}
use Rattle.var_types.specs.declared.call.Call.{Call}
use Rattle.script_text.specs.declared.calls_end.CallsEnd.{CallsEnd}
use Rattle.script_text.specs.declared.calls_end.CallsEnd.TheVariants as until
use Rattle.script_text.specs.declared.line_reason.LineReason.TheVariants.{Text}
use Rattle.script_text.specs.declared.script_fault.ScriptFault.TheVariants.{Line}
use Rattle.script_text.specs.CallLines.{ends_at, lines_before}
use Rattle.script_text.specs.FirstLine.{HasBadLine}
use Rattle.script_text.specs.Lines.{is_comment, is_text}
use Rattle.script_text.specs.Script.{after_line, calls_from}
use Rattle.script_text.specs.Words.{◌>>=◌, line_call}
use Rattle.script_text.proofs.ScheduleBegins.{other_begins_none}
use Rattle.script_text.proofs.call_lines.calls_in.Goals as goal

-- a bad line is refused
bad_call : (line : List ℕ) → is_comment line ≡ false → is_text line ≡ false → line_call line ≡ Err Text
unfolding line_call
bad_call line comment text = rw (comment, text) refl

-- and the lines of calls don't end at it
bad_goes_on : (end : CallsEnd) (line : List ℕ) → is_text line ≡ false → ends_at end line ≡ false
bad_goes_on until.Text line text = refl
bad_goes_on until.Schedule line text = other_begins_none line text

bad_before : (end : CallsEnd) (line : List ℕ) (later : List (List ℕ)) → is_text line ≡ false
    → lines_before end (line ∷ later) ≡ line ∷ lines_before end later
unfolding lines_before
bad_before end line later text = rw (bad_goes_on end line text) refl

-- so are lines that begin with one
bad_calls : (end : CallsEnd) (number : ℕ) (before : List (List Call)) (text : List ℕ) → HasBadLine text
    → calls_from number before (lines_before end (lines text)) ≡ Err (Line number Text)
unfolding calls_from
bad_calls end number before text (line, later, is, comment, bad) =
    ap (λ (texts : List (List ℕ)). calls_from number before (lines_before end texts)) is
    ∙ ap (calls_from number before) (bad_before end line later bad)
    ∙ ap (λ read. after_line number before read >>= λ after. calls_from (number + 1) after (lines_before end later)) (bad_call line comment bad)

pub returns-in_default-clause-err : goal.returns-in_default-clause-err
returns-in_default-clause-err c =
    sym c.lines.invariant.one_script ∙ bad_calls c.args.end c.lines.number _ c.lines.rest.now c.in_default.ensures
