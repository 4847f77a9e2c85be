-- A policy more behind others, and policies that are locked.
use Rattle.std.proofs.Common.{◌≡◌, ℕ, zero, suc, ◌+◌, ◌<◌, ◌≤◌, Bool, true, false, List, [], ◌∷◌, ◌++◌, length, Option, Some, None, Result, Ok, Err, refl, sym, ap, ◌∙◌, subst, arith}
use Rattle.std.proofs.lemmas.Bool.{leb-false, leb-true, le-leb, lt-leb}
use Rattle.std.specs.Prelude.{nat_le, slice_get, if◌then◌else◌}
use Rattle.var_types.specs.Exit.{exit_step}
use Rattle.var_types.specs.History.{Entry, run}
use Rattle.var_types.specs.Policies.{Question, behind, best, better, covers, denied, denied_by, denying_rule, wildcards}
use Rattle.var_types.specs.PolicyLaws.{HasSamePolicies}
use Rattle.var_types.specs.PolicyStep.{change_outcome, may_disable, may_lock, policy_step, register_outcome, registered}
use Rattle.var_types.specs.Set.{decided, decision, set_step}
use Rattle.var_types.specs.State.{State}
use Rattle.var_types.specs.Step.{step}
use Rattle.var_types.specs.declared.ask.Denied.{Denied}
use Rattle.var_types.specs.declared.call.Call.{Call}
use Rattle.var_types.specs.declared.call.Call.TheVariants.{ExitBoot, Get, Next, Policy as PolicyCalled, Set}
use Rattle.var_types.specs.declared.call.SetCall.{SetCall}
use Rattle.var_types.specs.declared.decision.Decision.{Decision}
use Rattle.var_types.specs.declared.decision.Decision.TheVariants.{Refuse, Remove, Same, Write}
use Rattle.var_types.specs.declared.key.Key.{Key}
use Rattle.var_types.specs.declared.policy.Policy.{Policy}
use Rattle.var_types.specs.declared.policy_call.PolicyCall.{PolicyCall}
use Rattle.var_types.specs.declared.policy_call.PolicyCall.TheVariants as calls
use Rattle.var_types.specs.declared.reply.ExitReply.{ExitReply}
use Rattle.var_types.specs.declared.reply.ExitReply.TheVariants as exit

-- ---- a policy more behind others

-- what counts among policies and one more behind these: the last only where it covers the key and has fewer wildcards
abbrev joined : ℕ → Bool → Policy → Option (ℕ × Policy) → Option (ℕ × Policy)
joined place false policy found = found
joined place true policy None = Some (place, policy)
joined place true policy (Some found) = if nat_le (wildcards found.1) (wildcards policy) then Some found else Some (place, policy)

-- what counts, by whether the first covers the key
abbrev first_with : Bool → Policy → Option (ℕ × Policy) → Option (ℕ × Policy)
first_with true first found = better first found
first_with false first found = behind found

-- one that covers the key in front of one that is behind it
covering_front : (place : ℕ) (first policy : Policy) (found : ℕ × Policy) (a : Bool) → nat_le (wildcards found.1) (wildcards policy) ≡ a → (b : Bool)
    → nat_le (wildcards first) (wildcards found.1) ≡ b
    → better first (if a then Some found else Some (place, policy))
    ≡ joined (suc place) true policy (if b then Some (0, first) else Some (suc found.0, found.1))
covering_front place first policy found true is_a true is_b =
    let f = leb-true _ _ is_a in
    let g = leb-true _ _ is_b in
    let le : nat_le (wildcards first) (wildcards policy) ≡ true = le-leb (wildcards first) (wildcards policy) (omega arith) in
    rw (is_b, le) refl
covering_front place first policy found true is_a false is_b = rw (is_b, is_a) refl
covering_front place first policy found false is_a true is_b = refl
covering_front place first policy found false is_a false is_b =
    let f = leb-false _ _ is_a in
    let g = leb-false _ _ is_b in
    let gt : nat_le (wildcards first) (wildcards policy) ≡ false = lt-leb (wildcards first) (wildcards policy) (omega arith) in
    rw (is_a, gt) refl

-- one more in front, where the last is behind it
front_joined : (place : ℕ) (first policy : Policy) (here last : Bool) (found : Option (ℕ × Policy))
    → first_with here first (joined place last policy found) ≡ joined (suc place) last policy (first_with here first found)
front_joined place first policy here false found = refl
front_joined place first policy false true None = refl
front_joined place first policy false true (Some found) = by (nat_le (wildcards found.1) (wildcards policy))
  where
    by : (a : Bool) → behind (if a then Some found else Some (place, policy)) ≡ (if a then Some (suc found.0, found.1) else Some (suc place, policy))
    by true = refl
    by false = refl
front_joined place first policy true true None = refl
front_joined place first policy true true (Some found) =
    covering_front place first policy found (nat_le (wildcards found.1) (wildcards policy)) refl (nat_le (wildcards first) (wildcards found.1)) refl

-- by the test itself
first_is : (first : Policy) (here : Bool) (found : Option (ℕ × Policy)) → (if here then better first found else behind found) ≡ first_with here first found
first_is first true found = refl
first_is first false found = refl

-- what counts among policies and one more
best-last : (policies : List Policy) (policy : Policy) (key : Key)
    → best (policies ++ policy ∷ []) key ≡ joined (length policies) (covers policy key) policy (best policies key)
best-last [] policy key = by (covers policy key)
  where
    by : (b : Bool) → (if b then Some (0, policy) else None) ≡ joined 0 b policy None
    by true = refl
    by false = refl
best-last (first ∷ policies) policy key =
    let here = covers first key in
    first_is first here (best (policies ++ policy ∷ []) key)
    ∙ ap (first_with here first) (best-last policies policy key)
    ∙ front_joined (length policies) first policy here (covers policy key) (best policies key)
    ∙ ap (joined (suc (length policies)) (covers policy key) policy) (sym (first_is first here (best policies key)))

-- one that has no fewer wildcards leaves what counts
kept_best : (place : ℕ) (policy : Policy) (found : ℕ × Policy) (last : Bool) → (last ≡ true → wildcards found.1 ≤ wildcards policy)
    → joined place last policy (Some found) ≡ Some found
kept_best place policy found false more = refl
kept_best place policy found true more = rw (le-leb (wildcards found.1) (wildcards policy) (more refl)) refl

pub best_kept : (policies : List Policy) (policy : Policy) (key : Key) (found : ℕ × Policy) → best policies key ≡ Some found
    → (covers policy key ≡ true → wildcards found.1 ≤ wildcards policy) → best (policies ++ policy ∷ []) key ≡ best policies key
best_kept policies policy key found is more =
    best-last policies policy key ∙ ap (joined (length policies) (covers policy key) policy) is
    ∙ kept_best (length policies) policy found (covers policy key) more ∙ sym is

-- the rules of a policy see no other policies
same_denial : (state : State) (policies : List Policy) (question : Question) (found : Option (ℕ × Policy))
    → denied_by (record state { policies = policies }) question found ≡ denied_by state question found
unfolding denying_rule
same_denial state policies question None = refl
same_denial state policies question (Some found) = refl

-- what a set is denied by depends on the policy that counts alone
pub denied_by_best : (state : State) (policies : List Policy) (question : Question)
    → best policies question.key ≡ best state.policies question.key
    → denied (record state { policies = policies }) question ≡ denied state question
unfolding denied
denied_by_best state policies question is =
    ap (λ (d : Option Denied). if state.policy_on then d else None)
    (same_denial state policies question (best policies question.key) ∙ ap (denied_by state question) is)

-- ---- policies that are locked

module _ (state : State) where
  abbrev Keeps : State → Type 0
  Keeps = HasSamePolicies state

  kept_itself : Keeps state
  kept_itself = record { policies = refl; policy_on = refl; locked = refl }

  kept_decided : (call : SetCall) (d : Decision) → Keeps (decided state call d).1
  kept_decided call (Refuse reason) = kept_itself
  kept_decided call Same = kept_itself
  kept_decided call (Remove store) = record { policies = refl; policy_on = refl; locked = refl }
  kept_decided call (Write attributes stamp skip append) = record { policies = refl; policy_on = refl; locked = refl }

  kept_registered : (locked : Bool) → locked ≡ true → (bytes : List ℕ) → Keeps (register_outcome state (registered state.policies locked bytes)).1
  unfolding registered
  kept_registered true is bytes = kept_itself
  kept_registered false is bytes = cc

  kept_lock : (locked : Bool) → locked ≡ true → (next : State) → Keeps (change_outcome state next (may_lock locked)).1
  kept_lock true is next = kept_itself
  kept_lock false is next = cc

  kept_disable : (on locked : Bool) → locked ≡ true → (next : State) → Keeps (change_outcome state next (may_disable on locked)).1
  kept_disable true true is next = kept_itself
  kept_disable false true is next = kept_itself
  kept_disable true false is next = cc
  kept_disable false false is next = cc

  kept_policy : state.locked ≡ true → (call : PolicyCall) → Keeps (policy_step state call).1
  unfolding policy_step
  kept_policy is (calls.Register bytes) = kept_registered state.locked is bytes
  kept_policy is calls.Lock = kept_lock state.locked is (record state { locked = true })
  kept_policy is calls.Disable = kept_disable state.policy_on state.locked is (record state { policy_on = false })
  kept_policy is calls.Enabled = kept_itself
  kept_policy is (calls.At place) = kept_itself

  kept_ended : (runtime full : Bool)
      → Keeps
      (if◌then◌else◌ {A = ExitReply × State} runtime (exit.Same, state)
      (if full then (exit.HistoryFull state.made, state)
      else (exit.Ok, record state { runtime = true; made = state.made + 1 }))).1
  kept_ended true full = kept_itself
  kept_ended false true = kept_itself
  kept_ended false false = record { policies = refl; policy_on = refl; locked = refl }

  -- no call changes them
  pub locked_stay : state.locked ≡ true → (call : Call) → Keeps (step state call).1
  unfolding step set_step exit_step
  locked_stay is (Get call) = kept_itself
  locked_stay is (Next call) = kept_itself
  locked_stay is (Set call) = kept_decided call (decision state call)
  locked_stay is (PolicyCalled call) = kept_policy is call
  locked_stay is ExitBoot = kept_ended state.runtime (nat_le state.limit state.made)

-- nor do calls one after the other
pub locked_run : (state : State) (history : List Entry) → state.locked ≡ true → HasSamePolicies state (run state history)
locked_run state [] is = record { policies = refl; policy_on = refl; locked = refl }
locked_run state (entry ∷ entries) is =
    let one = locked_stay state is entry.call in
    let more = locked_run (step state entry.call).1 entries (one.locked ∙ is) in
    record { policies = more.policies ∙ one.policies; policy_on = more.policy_on ∙ one.policy_on; locked = more.locked ∙ one.locked }
