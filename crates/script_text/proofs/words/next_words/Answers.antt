use Rattle.std.proofs.Common.{ℕ, List, sym, subst}
use Rattle.script_text.specs.GivesLine.{GivesLine}
use Rattle.script_text.specs.Words.{next_words}
use Rattle.script_text.proofs.words.next_words.Goals as goal

pub returns-in-Some : goal.returns-in-Some
unfolding next_words
returns-in-Some c =
    subst (λ (words : List (List ℕ)). GivesLine c.next_call.result (next_words words)) (sym c.in-Some.ensures) c.next_call.ensures
