use Rattle.std.proofs.Common.{◌≡◌, ℕ, List, ◌∷◌, Result, Ok, Err, sym, subst, ap, ◌∙◌}
use Rattle.var_types.specs.declared.verdict.Verdict.{Verdict}
use Rattle.script_text.specs.declared.line_reason.LineReason.{LineReason}
use Rattle.script_text.specs.GivesLine.{GivesLine}
use Rattle.script_text.specs.Lines.{words_of}
use Rattle.script_text.specs.Words.{◌>>=◌, last_verdict, set_call, set_words}
use Rattle.script_text.proofs.WordCounts.{few_set_words}
use Rattle.script_text.proofs.words.set_words.Goals as goal

pub returns-in_default : goal.returns-in_default
returns-in_default c = few_set_words (words_of c.args.line.now) c.in_default.ensures

-- what is read of four words and of those behind them
with_verdict : (all rest : List (List ℕ)) (guid name attributes bytes : List ℕ) (verdict : Result (Result Verdict LineReason) LineReason)
    → all ≡ guid ∷ name ∷ attributes ∷ bytes ∷ rest → verdict ≡ last_verdict rest
    → set_words all ≡ (verdict >>= set_call guid name attributes bytes)
unfolding set_words
with_verdict all rest guid name attributes bytes verdict is read =
    ap set_words is ∙ ap (λ (v : Result (Result Verdict LineReason) LineReason). v >>= set_call guid name attributes bytes) (sym read)

pub returns-in-Ok : goal.returns-in-Ok
returns-in-Ok c =
    let words = c.in-Some.words in
    subst (GivesLine c.set_call.result)
    (sym
    (with_verdict _ _ words.guid.now words.name.now words.attributes.now words.bytes.now (Ok c.in-Ok.verdict) c.in-Some.ensures c.in-Ok.ensures))
    c.set_call.ensures

pub returns-in-Err : goal.returns-in-Err
returns-in-Err c =
    let words = c.in-Some.words in
    with_verdict _ _ words.guid.now words.name.now words.attributes.now words.bytes.now (Err c.in-Err.reason) c.in-Some.ensures c.in-Err.ensures
