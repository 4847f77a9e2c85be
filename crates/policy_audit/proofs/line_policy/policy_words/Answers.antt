use Rattle.std.proofs.Common.{◌≡◌, ℕ, List, ◌∷◌, Result, sym, ap, subst, ◌∙◌}
use Rattle.script_text.specs.Lines.{words_of}
use Rattle.var_types.specs.declared.policy.Policy.{Policy}
use Rattle.policy_audit.specs.declared.policy_line.PolicyLine.{PolicyLine}
use Rattle.policy_audit.specs.Gives.{GivesLine}
use Rattle.policy_audit.specs.Words.{policy_words}
use Rattle.policy_audit.proofs.WordCounts.{few_policy_words, policy_of_words, other_lock_words}
use Rattle.policy_audit.proofs.line_policy.policy_words.Goals as goal

pub returns-in_default-clause-policy : goal.returns-in_default-clause-policy
returns-in_default-clause-policy c = few_policy_words (words_of c.args.line.now) c.in_default.ensures

pub returns-then-not-has_lock_words-clause-policy : goal.returns-then-not-has_lock_words-clause-policy
returns-then-not-has_lock_words-clause-policy c =
    let words = c.in-Some.words in
    ap policy_words c.in-Some.ensures
    ∙ other_lock_words words.guid.now words.name.now words.min.now words.max.now words.must.now words.cant.now words.lock.now (words_of words.rest.now)
    cc

pub returns-clause-policy : goal.returns-clause-policy
returns-clause-policy c =
    let words = c.in-Some.words in
    subst (GivesLine c.entry_policy.result)
    (sym
    (ap policy_words c.in-Some.ensures
    ∙ policy_of_words words.guid.now words.name.now words.min.now words.max.now words.must.now words.cant.now words.lock.now (words_of words.rest.now)
    cc))
    c.entry_policy.ensures.policy
