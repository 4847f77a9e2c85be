use Rattle.std.proofs.Common.{List, ℕ, subst, sym}
use Rattle.script_text.specs.GivesLine.{GivesLine}
use Rattle.script_text.specs.Words.{policy_words}
use Rattle.script_text.proofs.words.policy_words.Goals as goal

pub returns-in-Some : goal.returns-in-Some
unfolding policy_words
returns-in-Some c =
    subst (λ (words : List (List ℕ)). GivesLine c.policy_call.result (policy_words words)) (sym c.in-Some.ensures) c.policy_call.ensures
