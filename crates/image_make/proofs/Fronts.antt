-- The first calls of a script, and the lines of calls, one call more each time.
use Rattle.std.proofs.Common.{◌≡◌, ℕ, ◌+◌, List, [], ◌∷◌, ◌++◌, length, flat_map, refl, sym, ap, ◌∙◌}
use Rattle.std.proofs.lemmas.List.{append-nil}
use Rattle.std.proofs.lemmas.List.Concat.{flat_map-append}
use Rattle.std.proofs.lemmas.List.FromFn.{length-map-range_with_len, map-range_with_len_more}
use Rattle.std.proofs.Math.Nat.{zero-add}
use Rattle.var_types.specs.declared.call.Call.{Call}
use Rattle.image_make.specs.Generated.{first_calls, generated_call, line_text, lines_text}

-- no calls have no lines
pub lines_text-nil : lines_text [] ≡ []
unfolding lines_text
lines_text-nil = refl

-- the lines of the first call and of those behind it
pub lines_text-cons : (call : Call) (calls : List Call) → lines_text (call ∷ calls) ≡ line_text call ++ lines_text calls
unfolding lines_text
lines_text-cons call calls = refl

-- the lines of calls and of one behind them
pub lines_text-more : (calls : List Call) (call : Call) → lines_text calls ++ line_text call ≡ lines_text (calls ++ call ∷ [])
unfolding lines_text
lines_text-more calls call =
    sym (flat_map-append line_text calls (call ∷ []) ∙ ap (λ (text : List ℕ). flat_map line_text calls ++ text) (append-nil (line_text call)))

-- there are no first calls of none
pub first_calls-zero : (number : ℕ) → first_calls number 0 ≡ []
unfolding first_calls
first_calls-zero number = refl

-- one call more
pub first_calls-more : (number count : ℕ) → first_calls number (count + 1) ≡ first_calls number count ++ generated_call number count ∷ []
unfolding first_calls
first_calls-more number count = map-range_with_len_more (generated_call number) 0 count count (zero-add count)

-- the lines of one call more
pub lines_text-first_calls : (number count : ℕ)
    → lines_text (first_calls number count) ++ line_text (generated_call number count) ≡ lines_text (first_calls number (count + 1))
lines_text-first_calls number count =
    lines_text-more (first_calls number count) (generated_call number count) ∙ ap lines_text (sym (first_calls-more number count))

-- there are so many
pub length-first_calls : (number count : ℕ) → length (first_calls number count) ≡ count
unfolding first_calls
length-first_calls number count = length-map-range_with_len (generated_call number) 0 count
