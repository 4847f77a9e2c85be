use Rattle.std.specs.Prelude.{ℕ, Bool, true, false, List, [], Option, Some, None, if◌then◌else◌, ◌&&◌, not, IsSome}
use Rattle.std.specs.BTreeMap.{is_at}
use Rattle.std.specs.Map.{lookup}
use Rattle.var_types.specs.declared.key.Key.{Key}
use Rattle.var_types.specs.declared.policy.Policy.{Policy}
use Rattle.var_types.specs.declared.variable.Variable.{Variable}
use Rattle.var_types.specs.Attributes.{has, runtime_access_bit}
use Rattle.var_types.specs.Key.{key_cmp}

-- the state of the service: its variables by key, in key order; its policies in order of registration, whether policy is on and
-- whether it is locked; whether the phase is runtime; how many changes were made, and how many may be (UEFI 2.10, 8.2; EDK II,
-- VariablePolicyLib; the count and its limit are this project's own)
pub record State : Type 0 where
  pub variables : List (Key × Variable)
  pub policies : List Policy
  pub policy_on : Bool
  pub locked : Bool
  pub runtime : Bool
  pub made : ℕ
  pub limit : ℕ

-- a start with these variables: no policy, policy on and not locked, the boot phase, no change made (this project's own)
abbrev pub start : List (Key × Variable) → ℕ → State
start variables limit = record {
  variables = variables;
  policies = [];
  policy_on = true;
  locked = false;
  runtime = false;
  made = 0;
  limit = limit;
}

-- what is stored at a key, visible or not
abbrev pub stored_at : State → Key → Option Variable
stored_at state key = lookup (is_at (key_cmp key)) state.variables

-- a stored variable as callers see it: at runtime one without runtime access is hidden (UEFI 2.10, 8.2.1)
abbrev pub seen_at : Bool → Option Variable → Option Variable
seen_at runtime None = None
seen_at runtime (Some variable) = if runtime && not (has variable.attributes runtime_access_bit) then None else Some variable

-- what callers see at a key (UEFI 2.10, 8.2.1)
abbrev pub visible_at : State → Key → Option Variable
visible_at state key = seen_at state.runtime (stored_at state key)

-- callers see a variable at the key (UEFI 2.10, 8.2.1)
abbrev pub IsVisible : State → Key → Type 0
IsVisible state key = IsSome (visible_at state key)
