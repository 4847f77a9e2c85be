use Rattle.std.proofs.Common.{ℕ, List, sym, subst}
use Rattle.script_text.specs.GivesLine.{GivesLine}
use Rattle.script_text.specs.Words.{get_words}
use Rattle.script_text.proofs.words.get_words.Goals as goal

pub returns-in-Some : goal.returns-in-Some
unfolding get_words
returns-in-Some c =
    subst (λ (words : List (List ℕ)). GivesLine c.get_call.result (get_words words)) (sym c.in-Some.ensures) c.get_call.ensures
