-- What a script with a schedule comes to, by its calls and by the lines of its schedule.
use Rattle.std.proofs.Common.{◌≡◌, ℕ, ◌+◌, Bool, true, false, ltb, List, [], ◌∷◌, length, Result, Ok, Err, refl, sym, ap, ◌∙◌, subst, if◌then◌else◌}
use Rattle.std.specs.Prelude.{IsErrAnd}
use Rattle.std.specs.Str.Lines.{lines}
use Rattle.var_types.specs.declared.call.Call.{Call}
use Rattle.script_text.specs.declared.calls_end.CallsEnd.TheVariants as until
use Rattle.script_text.specs.declared.play_fault.PlayFault.{PlayFault}
use Rattle.script_text.specs.declared.play_fault.PlayFault.TheVariants as play
use Rattle.script_text.specs.declared.script_fault.ScriptFault.{ScriptFault}
use Rattle.script_text.specs.declared.script_fault.ScriptFault.TheVariants as fault
use Rattle.script_text.specs.CallLines.{calls_until, lines_before, lines_behind}
use Rattle.script_text.specs.Gives.{IsRefusal}
use Rattle.script_text.specs.GivesPlay.{GivesPlay, IsPlayRefusal}
use Rattle.script_text.specs.PlayFaults.{as_play_fault}
use Rattle.script_text.specs.Schedule.{PlayParts, ScheduleParts, call_lines, of_script, play_of, schedule_from, schedule_lines}
use Rattle.script_text.specs.Script.{calls_from, most_script_bytes}
use Rattle.script_text.specs.Words.{◌>>=◌}
use Rattle.script_text.proofs.CallLines.{lines_before-schedule, lines_behind-schedule}

-- the calls with a schedule
abbrev with_schedule : List (List Call) → Result ScheduleParts PlayFault → Result PlayParts PlayFault
with_schedule calls read = read >>= λ schedule. Ok (record { calls = calls; schedule = schedule })

-- the lines of a text's schedule, for so many processors
abbrev schedule_behind : List ℕ → ℕ → Result ScheduleParts PlayFault
schedule_behind text processors = schedule_from (length (call_lines (lines text)) + 2) processors (schedule_lines (lines text))

-- the calls come first
play_of-calls : (text : List ℕ)
    → play_of text ≡ (of_script (calls_until until.Schedule text) >>= λ calls. with_schedule calls (schedule_behind text (length calls)))
unfolding play_of calls_until
play_of-calls text = rw (lines_before-schedule (lines text)) (by (ltb most_script_bytes (length text)) (calls_from 1 ([] ∷ []) (call_lines (lines text))))
  where
    by : (long : Bool) (read : Result (List (List Call)) ScriptFault)
        → (if long then Err (play.TooLong most_script_bytes) else (of_script read >>= λ calls. with_schedule calls (schedule_behind text (length calls))))
        ≡ (of_script (if long then Err (fault.TooLong most_script_bytes) else read) >>= λ calls. with_schedule calls (schedule_behind text (length calls)))
    by true read = refl
    by false read = refl

-- a refusal is the schedule's where the calls were read
play_of-schedule : (text : List ℕ) (calls : List (List Call)) → calls_until until.Schedule text ≡ Ok calls
    → play_of text ≡ with_schedule calls (schedule_behind text (length calls))
play_of-schedule text calls read =
    play_of-calls text
    ∙ ap (λ (r : Result (List (List Call)) ScriptFault). of_script r >>= λ calls. with_schedule calls (schedule_behind text (length calls))) read

-- a refusal of the calls
pub refused_calls : (result : Result PlayParts PlayFault) (e : ScriptFault) (text : List ℕ) → IsErrAnd result (λ f. f ≡ as_play_fault e)
    → IsRefusal e (calls_until until.Schedule text) → GivesPlay result (play_of text)
refused_calls (Ok play) e text is why = absurd is
refused_calls (Err f) e text is why = subst (λ (f : PlayFault). IsPlayRefusal f (play_of text)) (sym is) (by e why)
  where
    refused : (e : ScriptFault) → calls_until until.Schedule text ≡ Err e → play_of text ≡ Err (as_play_fault e)
    refused e h =
        play_of-calls text
        ∙ ap (λ (r : Result (List (List Call)) ScriptFault). of_script r >>= λ calls. with_schedule calls (schedule_behind text (length calls))) h

    by : (e : ScriptFault) → IsRefusal e (calls_until until.Schedule text) → IsPlayRefusal (as_play_fault e) (play_of text)
    by fault.OutOfMemory why = tt
    by (fault.Line number reason) why = refused (fault.Line number reason) why
    by (fault.TooLong bytes) why = refused (fault.TooLong bytes) why
    by (fault.TooManyCalls processor limit) why = refused (fault.TooManyCalls processor limit) why

-- the schedule, by the lines that were left of the text
module _ (text behind : List ℕ) (calls : List (List Call)) (number processors : ℕ) (read : calls_until until.Schedule text ≡ Ok calls)
    (is_behind : lines behind ≡ lines_behind until.Schedule (lines text)) (numbered : number ≡ length (lines_before until.Schedule (lines text)) + 2)
    (count : processors ≡ length calls) where
  schedule_same : schedule_from number processors (lines behind) ≡ schedule_behind text (length calls)
  schedule_same =
      ap (λ (n : ℕ). schedule_from n processors (lines behind)) (numbered ∙ ap (λ (texts : List (List ℕ)). length texts + 2) (lines_before-schedule (lines text)))
      ∙ ap (λ (n : ℕ). schedule_from (length (call_lines (lines text)) + 2) n (lines behind)) count
      ∙ ap (schedule_from (length (call_lines (lines text)) + 2) (length calls)) (is_behind ∙ lines_behind-schedule (lines text))

  pub found_play : (schedule : ScheduleParts) → schedule_from number processors (lines behind) ≡ Ok schedule
      → play_of text ≡ Ok (record { calls = calls; schedule = schedule })
  found_play schedule h = play_of-schedule text calls read ∙ ap (with_schedule calls) (sym schedule_same ∙ h)

  pub refused_schedule : (result : Result PlayParts PlayFault) (e : PlayFault) → IsErrAnd result (λ f. f ≡ e)
      → IsPlayRefusal e (schedule_from number processors (lines behind)) → GivesPlay result (play_of text)
  refused_schedule (Ok play) e is why = absurd is
  refused_schedule (Err f) e is why = subst (λ (f : PlayFault). IsPlayRefusal f (play_of text)) (sym is) (by e why)
    where
      refused : (e : PlayFault) → schedule_from number processors (lines behind) ≡ Err e → play_of text ≡ Err e
      refused e h = play_of-schedule text calls read ∙ ap (with_schedule calls) (sym schedule_same ∙ h)

      by : (e : PlayFault) → IsPlayRefusal e (schedule_from number processors (lines behind)) → IsPlayRefusal e (play_of text)
      by (play.Actor line) why = refused (play.Actor line) why
      by play.OutOfMemory why = tt
      by (play.Line number reason) why = refused (play.Line number reason) why
      by (play.TooLong bytes) why = refused (play.TooLong bytes) why
      by (play.TooManyCalls processor limit) why = refused (play.TooManyCalls processor limit) why
