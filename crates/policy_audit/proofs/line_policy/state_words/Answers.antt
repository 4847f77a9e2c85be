use Rattle.std.proofs.Common.{ℕ, List, sym, subst}
use Rattle.policy_audit.specs.Gives.{GivesLine}
use Rattle.policy_audit.specs.Words.{state_words}
use Rattle.policy_audit.proofs.line_policy.state_words.Goals as goal

pub returns-in-Some : goal.returns-in-Some
unfolding state_words
returns-in-Some c =
    subst (λ (words : List (List ℕ)). GivesLine c.state_lock.result (state_words words)) (sym c.in-Some.ensures) c.state_lock.ensures
