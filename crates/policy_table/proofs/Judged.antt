-- What the table says of a set is what the policies of the state do.
use Rattle.std.proofs.Common.{◌≡◌, ℕ, Bool, true, Option, Some, None, refl, sym, ap, ◌∙◌}
use Rattle.std.specs.Prelude.{if◌then◌else◌}
use Rattle.policy_table.specs.PolicyState.{PolicyState, with_policies}
use Rattle.var_types.specs.Policies.{Question, best, denied, denied_by, denying_rule}
use Rattle.var_types.specs.State.{State}
use Rattle.var_types.specs.declared.ask.Denied.{Denied}
use Rattle.var_types.specs.declared.policy.Policy.{Policy}

-- the rules of a policy see no other policies
same_denial : (state : State) (table : PolicyState) (question : Question) (found : Option (ℕ × Policy))
    → denied_by state question found ≡ denied_by (with_policies state table) question found
unfolding denying_rule
same_denial state table question None = refl
same_denial state table question (Some found) = refl

-- with policy on the policy that counts decides
pub judged : (state : State) (table : PolicyState) (question : Question) (said : Option Denied) → table.policy_on ≡ true
    → said ≡ denied_by state question (best table.policies question.key) → said ≡ denied (with_policies state table) question
unfolding denied
judged state table question said on is =
    is ∙ same_denial state table question (best table.policies question.key)
    ∙ ap (λ (b : Bool). if b then denied_by (with_policies state table) question (best table.policies question.key) else None) (sym on)
