-- What the choice of a policy says of every list of policies, and the order of time stamps.
use Rattle.std.specs.Prelude.{◌≡◌, ℕ, ◌<◌, ◌≤◌, true, false, List, [], ◌∷◌, ◌++◌, slice_get, Option, Some, None}
use Rattle.var_types.specs.declared.key.Key.{Key}
use Rattle.var_types.specs.declared.policy.Policy.{Policy}
use Rattle.var_types.specs.declared.stamp.Stamp.{Stamp}
use Rattle.var_types.specs.History.{Entry, run}
use Rattle.var_types.specs.Policies.{Question, best, covers, denied, wildcards}
use Rattle.var_types.specs.Stamps.{is_later, time_of}
use Rattle.var_types.specs.State.{State}

-- a policy stands at a place, covers a key, has no more wildcards than any that does, and fewer than each of those before it (EDK II,
-- GetBestPolicyMatch; that the first of several counts is this project's own)
pub record IsBest (policies : List Policy) (key : Key) (place : ℕ) (policy : Policy) : Type 0 where
  pub there : slice_get policies place ≡ Some policy
  pub covered : covers policy key ≡ true
  pub fewest : (i : ℕ) (rival : Policy) → slice_get policies i ≡ Some rival → covers rival key ≡ true → wildcards policy ≤ wildcards rival
  pub first : (i : ℕ) (rival : Policy) → i < place → slice_get policies i ≡ Some rival → covers rival key ≡ true
      → wildcards policy < wildcards rival

-- what was found for a key is its best policy; where nothing was, no policy covers the key
abbrev pub IsBestOf : List Policy → Key → Option (ℕ × Policy) → Type 0
IsBestOf policies key None = (i : ℕ) (rival : Policy) → slice_get policies i ≡ Some rival → covers rival key ≡ false
IsBestOf policies key (Some found) = IsBest policies key found.0 found.1

-- the policy that counts for a key is its best one
abbrev pub BestIsBest : Type 0
BestIsBest = (policies : List Policy) (key : Key) → IsBestOf policies key (best policies key)

-- with policy off no set is denied (EDK II, DisableVariablePolicy)
abbrev pub OffDeniesNothing : Type 0
OffDeniesNothing = (state : State) (question : Question) → state.policy_on ≡ false → denied state question ≡ None

-- what a set is denied by depends on the policy that counts for its key alone: other policies among which the same one counts deny alike
abbrev pub BestAloneDenies : Type 0
BestAloneDenies =
    (state : State) (policies : List Policy) (question : Question) → best policies question.key ≡ best state.policies question.key
    → denied (record state { policies = policies }) question ≡ denied state question

-- a policy that is registered behind the one that counts for a key, and doesn't cover the key or has no fewer wildcards, doesn't count for it
abbrev pub LaterNeedsFewer : Type 0
LaterNeedsFewer =
    (policies : List Policy) (policy : Policy) (key : Key) (found : ℕ × Policy) → best policies key ≡ Some found
    → (covers policy key ≡ true → wildcards found.1 ≤ wildcards policy) → best (policies ++ policy ∷ []) key ≡ best policies key

-- two states have the same policies, on or off, locked or not
pub record HasSamePolicies (state next : State) : Type 0 where
  pub policies : next.policies ≡ state.policies
  pub policy_on : next.policy_on ≡ state.policy_on
  pub locked : next.locked ≡ state.locked

-- calls leave policies that are locked as they are (EDK II, LockVariablePolicy)
abbrev pub LockedPoliciesStay : Type 0
LockedPoliciesStay = (state : State) (history : List Entry) → state.locked ≡ true → HasSamePolicies state (run state history)

-- no stamp is later than itself
abbrev pub NoneIsLaterThanItself : Type 0
NoneIsLaterThanItself = (stamp : Stamp) → is_later stamp stamp ≡ false

-- a stamp is later than one that another is later than, where it is later than that other
abbrev pub LaterIsPassedOn : Type 0
LaterIsPassedOn = (a b c : Stamp) → is_later a b ≡ true → is_later b c ≡ true → is_later a c ≡ true

-- of two stamps with different times one is later
abbrev pub OneIsLater : Type 0
OneIsLater = (a b : Stamp) → is_later a b ≡ false → is_later b a ≡ false → time_of a ≡ time_of b
