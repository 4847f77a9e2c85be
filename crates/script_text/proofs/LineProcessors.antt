-- The processor of a line's call is one of eight.
use Rattle.std.proofs.Common.{◌≡◌, ℕ, ◌-◌, ◌<◌, ◌≤◌, Bool, true, false, ◌&&◌, List, [], ◌∷◌, Some, None, Result, Ok, Err, refl, subst, arith, nat_le}
use Rattle.std.proofs.lemmas.Bool.{leb-true}
use Rattle.std.specs.Prelude.{not, if◌then◌else◌}
use Rattle.script_text.specs.declared.line_reason.LineReason.{LineReason}
use Rattle.script_text.specs.declared.line_reason.LineReason.TheVariants as reason
use Rattle.script_text.specs.Lines.{is_comment, is_text, words_of}
use Rattle.script_text.specs.Numbers.{processor_of}
use Rattle.script_text.specs.Words.{call_words, line_call, words_call, ◌>>=◌}
use Rattle.var_types.specs.declared.call.Call.{Call}

-- the processor of a word
processor_of-small : (word : List ℕ) (processor : ℕ) → processor_of word ≡ Ok processor → processor < 8
unfolding processor_of
processor_of-small [] processor h = cc
processor_of-small (c ∷ []) processor h = by (nat_le 48 c) (nat_le c 55) h (λ small. leb-true c 55 small)
  where
    by : (first second : Bool) → (if first && second then Ok (c - 48) else Err reason.Processor) ≡ Ok processor → (second ≡ true → c ≤ 55) → processor < 8
    by true true h small = let e : c - 48 ≡ processor = cc in omega (arith, e, small refl)
    by true false h small = cc
    by false second h small = cc
processor_of-small (c ∷ d ∷ cs) processor h = cc

-- that of a line's words
words_call-small : (words : List (List ℕ)) (line : ℕ × Call) → words_call words ≡ Ok (Some line) → line.0 < 8
unfolding words_call
words_call-small [] line h = cc
words_call-small (word ∷ rest) line h = by (processor_of word) h (processor_of-small word)
  where
    at : (processor : ℕ) (read : Result Call LineReason) → (read >>= λ call. Ok (Some (processor, call))) ≡ Ok (Some line) → processor < 8 → line.0 < 8
    at processor (Ok call) h small =
        let e : (processor, call) ≡ line = cc in subst (λ (l : ℕ × Call). l.0 < 8) e small
    at processor (Err e) h small = cc

    by : (read : Result ℕ LineReason) → (read >>= λ processor. call_words rest >>= λ call. Ok (Some (processor, call))) ≡ Ok (Some line)
        → ((processor : ℕ) → read ≡ Ok processor → processor < 8) → line.0 < 8
    by (Ok processor) h small = at processor (call_words rest) h (small processor refl)
    by (Err e) h small = cc

-- that of a line
pub line_call-small : (text : List ℕ) (line : ℕ × Call) → line_call text ≡ Ok (Some line) → line.0 < 8
unfolding line_call
line_call-small text line h = by (is_comment text) (is_text text) h
  where
    by : (comment plain : Bool) → (if comment then Ok None else if not plain then Err reason.Text else words_call (words_of text)) ≡ Ok (Some line)
        → line.0 < 8
    by true plain h = cc
    by false true h = words_call-small (words_of text) line h
    by false false h = cc
