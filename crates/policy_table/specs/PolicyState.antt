-- The part of the service's state that is about policies.
use Rattle.std.specs.Prelude.{Bool, true, false, List, []}
use Rattle.var_types.specs.declared.policy.Policy.{Policy}
use Rattle.var_types.specs.State.{State}

-- the policies in order of registration, whether policy is on, and whether the policies are locked (EDK II, VariablePolicyLib)
pub record PolicyState : Type 0 where
  pub policies : List Policy
  pub policy_on : Bool
  pub locked : Bool

-- at a start there is no policy, policy is on, and the policies aren't locked (this project's own)
abbrev pub no_policies : PolicyState
no_policies = record { policies = []; policy_on = true; locked = false }

-- that part of a state
abbrev pub policies_of : State → PolicyState
policies_of state = record { policies = state.policies; policy_on = state.policy_on; locked = state.locked }

-- a state with another such part
abbrev pub with_policies : State → PolicyState → State
with_policies state table = record state { policies = table.policies; policy_on = table.policy_on; locked = table.locked }
