-- The lines of calls of processor 0 are read as the calls.
use Rattle.std.proofs.Common.{◌≡◌, ℕ, ◌+◌, ◌≤◌, ◌<◌, false, leb, ltb, List, [], ◌∷◌, ◌++◌, length, append_assoc, Ok, refl, sym, ap, ◌∙◌, arith, length-append}
use Rattle.std.proofs.lemmas.Bool.{le-ltb, lt-leb}
use Rattle.std.proofs.lemmas.List.{append-nil}
use Rattle.std.specs.List.{AllByRecursion}
use Rattle.std.specs.Str.Lines.{lines}
use Rattle.var_types.specs.declared.call.Call.{Call}
use Rattle.script_text.specs.ReadBack.{IsReadable, line_of}
use Rattle.script_text.specs.Script.{calls_from, most_calls, most_script_bytes, script_of}
use Rattle.script_text.proofs.CallTexts.{is_text-line_of, line_call-line_of}
use Rattle.script_text.proofs.FirstLines.{feed_line}
use Rattle.image_make.specs.Generated.{line_text, lines_text}
use Rattle.image_make.proofs.Fronts.{lines_text-cons, lines_text-nil}

-- the line of a call, and the lines behind it
lines-line_text : (call : Call) (rest : List ℕ) → IsReadable call → lines (line_text call ++ rest) ≡ line_of 0 call ∷ lines rest
lines-line_text call rest readable =
    ap lines (append_assoc (line_of 0 call) (10 ∷ []) rest) ∙ feed_line (line_of 0 call) rest (is_text-line_of 0 call (omega arith) readable)

-- one line with a call, and lines behind it
calls_from-line : (number : ℕ) (before : List Call) (call : Call) (rest : List (List ℕ)) → IsReadable call → length before < most_calls
    → calls_from number (before ∷ []) (line_of 0 call ∷ rest) ≡ calls_from (number + 1) ((before ++ call ∷ []) ∷ []) rest
unfolding calls_from
calls_from-line number before call rest readable few =
    let room : leb most_calls (length before) ≡ false = lt-leb most_calls (length before) few in
    rw (line_call-line_of 0 call (omega arith) readable, room) refl

-- no text has no lines
no_lines : (number : ℕ) (before : List (List Call)) → calls_from number before (lines []) ≡ Ok before
unfolding calls_from
no_lines number before = refl

-- the lines of calls are read as them, behind those that were read before
calls_from-lines : (calls : List Call) (number : ℕ) (before : List Call) → AllByRecursion IsReadable calls → length before + length calls ≤ most_calls
    → calls_from number (before ∷ []) (lines (lines_text calls)) ≡ Ok ((before ++ calls) ∷ [])
calls_from-lines [] number before readable few =
    ap (λ (text : List ℕ). calls_from number (before ∷ []) (lines text)) lines_text-nil
    ∙ no_lines number (before ∷ [])
    ∙ ap (λ (calls : List Call). Ok (calls ∷ [])) (sym (append-nil before))
calls_from-lines (call ∷ calls) number before readable few =
    ap (λ (text : List ℕ). calls_from number (before ∷ []) (lines text)) (lines_text-cons call calls)
    ∙ ap (calls_from number (before ∷ [])) (lines-line_text call (lines_text calls) readable.0)
    ∙ calls_from-line number before call (lines (lines_text calls)) readable.0 (omega arith)
    ∙ calls_from-lines calls (number + 1) (before ++ call ∷ []) readable.1 (omega (arith, length-append before (call ∷ [])))
    ∙ ap (λ (all : List Call). Ok (all ∷ [])) (append_assoc before (call ∷ []) calls)

-- the lines of calls are the script of the calls
pub script_of-lines_text : (calls : List Call) → AllByRecursion IsReadable calls → length calls ≤ most_calls → length (lines_text calls) ≤ most_script_bytes
    → script_of (lines_text calls) ≡ Ok (calls ∷ [])
unfolding script_of
script_of-lines_text calls readable few short =
    let within : ltb most_script_bytes (length (lines_text calls)) ≡ false = le-ltb _ _ short in
    rw within (calls_from-lines calls 1 [] readable (omega arith))
