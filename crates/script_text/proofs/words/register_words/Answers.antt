use Rattle.std.proofs.Common.{List, ℕ, subst, sym}
use Rattle.script_text.specs.GivesLine.{GivesLine}
use Rattle.script_text.specs.Words.{register_words}
use Rattle.script_text.proofs.words.register_words.Goals as goal

pub returns-in-Some : goal.returns-in-Some
unfolding register_words
returns-in-Some c =
    subst (λ (words : List (List ℕ)). GivesLine c.register_call.result (register_words words)) (sym c.in-Some.ensures) c.register_call.ensures
