use Rattle.std.proofs.Common.{◌≡◌, ℕ, ◌<◌, ◌≤◌, cond, List, [], ◌∷◌, length, take, Err, sym, ap, ◌∙◌, arith, ⊎_elim}
use Rattle.std.specs.Str.Lines.{lines}
use Rattle.std.proofs.lemmas.List.{take_all, length-take-le}
use Rattle.std.proofs.lemmas.Bool.{cases_lt, lt-ltb}
use Rattle.script_text.specs.declared.script_fault.ScriptFault.TheVariants.{TooLong}
use Rattle.script_text.specs.Script.{calls_from, most_script_bytes, script_of}

-- a text that is too long is refused by its length alone
pub script_of-long : (text : List ℕ) → most_script_bytes < length text → script_of text ≡ Err (TooLong most_script_bytes)
unfolding script_of
script_of-long text h =
    ap (λ b. cond b (Err (TooLong most_script_bytes)) (calls_from 1 ([] ∷ []) (lines text))) (lt-ltb most_script_bytes (length text) h)

-- where more than the limit is read, the rest says nothing more
pub script_of-take : (n : ℕ) (text : List ℕ) → most_script_bytes < n → script_of (take n text) ≡ script_of text
script_of-take n text h =
    ⊎_elim
    (λ (gt : n < length text). script_of-long (take n text) (let e : length (take n text) ≡ n = length-take-le n text (omega arith) in omega arith)
    ∙ sym (script_of-long text (omega arith)))
    (λ (le : length text ≤ n). ap script_of (take_all n text le))
    (cases_lt n (length text))
