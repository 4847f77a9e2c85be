-- A register by the policy rule, by what the table says of it.
use Rattle.std.proofs.Common.{◌≡◌, ℕ, ◌+◌, ◌<◌, ◌≤◌, Bool, true, false, List, [], ◌∷◌, ◌++◌, Result, Ok, Err, sym, ap, ◌∙◌, inl, inr, le-leb}
use Rattle.std.proofs.lemmas.Bool.{lt-leb}
use Rattle.std.specs.Prelude.{◌⊎◌, if◌then◌else◌}
use Rattle.policy_table.specs.Answers.{refused_reply, state_with}
use Rattle.policy_table.specs.PolicyState.{PolicyState}
use Rattle.var_types.specs.PolicyStep.{policy_step, register_outcome, registered}
use Rattle.var_types.specs.State.{State}
use Rattle.var_types.specs.Step.{lacks_memory}
use Rattle.var_types.specs.declared.call.Call.TheVariants.{Policy as PolicyCalled}
use Rattle.var_types.specs.declared.policy.Policy.{Policy}
use Rattle.var_types.specs.declared.policy_call.PolicyCall.TheVariants.{Register}
use Rattle.var_types.specs.declared.policy_reason.PolicyReason.{PolicyReason}
use Rattle.var_types.specs.declared.policy_reason.PolicyReason.TheVariants as reason
use Rattle.var_types.specs.declared.policy_reply.PolicyReply.{PolicyReply}
use Rattle.var_types.specs.declared.policy_reply.PolicyReply.TheVariants as policy
use Rattle.var_types.specs.declared.reply.Reply.TheVariants.{Policy as PolicyReplied}

module _ (state : State) (table : PolicyState) (made limit : ℕ) (entry : List ℕ) where
  -- the state before
  abbrev before : State
  before = state_with state table made limit

  -- the outcome of what the table says
  outcome_is : (said : Result Policy PolicyReason) → registered table.policies table.locked entry ≡ said
      → policy_step before (Register entry) ≡ register_outcome before said
  unfolding policy_step
  outcome_is said is = ap (register_outcome before) is

  -- the table refuses
  pub refused_is : (r : PolicyReason) → (registered table.policies table.locked entry ≡ Err r) ⊎ (r ≡ reason.OutOfMemory)
      → lacks_memory (PolicyCalled (Register entry)) (PolicyReplied (refused_reply r)) ≡ false
      → policy_step before (Register entry) ≡ (refused_reply r, before)
  refused_is reason.OutOfMemory h had = cc
  refused_is r (inr e) had = absurd (no_memory r e had)
    where
      no_memory : (r : PolicyReason) → r ≡ reason.OutOfMemory → lacks_memory (PolicyCalled (Register entry)) (PolicyReplied (refused_reply r)) ≡ false → ⊥
      no_memory r e had = let lost : true ≡ false = ap (λ s. lacks_memory (PolicyCalled (Register entry)) (PolicyReplied (refused_reply s))) (sym e) ∙ had in cc
  refused_is reason.Locked (inl e) had = outcome_is (Err reason.Locked) e
  refused_is (reason.Entry f) (inl e) had = outcome_is (Err (reason.Entry f)) e
  refused_is (reason.Already n) (inl e) had = outcome_is (Err (reason.Already n)) e
  refused_is (reason.TableFull n) (inl e) had = outcome_is (Err (reason.TableFull n)) e
  refused_is (reason.HistoryFull n) (inl e) had = outcome_is (Err (reason.HistoryFull n)) e
  refused_is reason.AlreadyOff (inl e) had = outcome_is (Err reason.AlreadyOff) e
  refused_is (reason.NoEntry n) (inl e) had = outcome_is (Err (reason.NoEntry n)) e

  -- the history is full
  pub full_is : (p : Policy) → registered table.policies table.locked entry ≡ Ok p → limit ≤ made
      → policy_step before (Register entry) ≡ (policy.Refused (reason.HistoryFull made), before)
  full_is p is full =
      outcome_is (Ok p) is
      ∙ ap (λ (b : Bool). if◌then◌else◌ {A = PolicyReply × State} b (policy.Refused (reason.HistoryFull made), before) (policy.Ok, record before { policies = table.policies ++ p ∷ []; made = made + 1 }))
      (le-leb limit made full)

  -- the policy is put behind the others
  pub done_is : (p : Policy) (new : PolicyState) → registered table.policies table.locked entry ≡ Ok p → made < limit
      → new ≡ record table { policies = table.policies ++ p ∷ [] }
      → policy_step before (Register entry) ≡ (policy.Ok, state_with state new (made + 1) limit)
  done_is p new is more put =
      outcome_is (Ok p) is
      ∙ ap (λ (b : Bool). if◌then◌else◌ {A = PolicyReply × State} b (policy.Refused (reason.HistoryFull made), before) (policy.Ok, record before { policies = table.policies ++ p ∷ []; made = made + 1 }))
      (lt-leb limit made more)
      ∙ ap (λ (t : PolicyState). (policy.Ok, state_with state t (made + 1) limit)) (sym put)
