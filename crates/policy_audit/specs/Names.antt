-- The namespaces and names of policies, in key order.
use Rattle.std.specs.Prelude.{◌≡◌, ℕ, List, [], Option, Some, None}
use Rattle.std.specs.BTreeMap.{is_at}
use Rattle.std.specs.List.{list_any}
use Rattle.var_types.specs.declared.key.Key.{Key}
use Rattle.var_types.specs.declared.policy.Policy.{Policy}
use Rattle.var_types.specs.Key.{key_cmp, key_of}
use Rattle.var_types.specs.PolicyEntry.{CanSpell}
use Rattle.var_types.specs.PolicyStep.{is_same_entry}

-- the units of a policy's name; no name has none
abbrev pub units_of : Option (List ℕ) → List ℕ
units_of None = []
units_of (Some units) = units

-- the namespace and the name of a policy as a key
abbrev pub policy_key : Policy → Key
policy_key policy = key_of policy.namespace (units_of policy.name)

-- keys are those of policies: one is among them exactly where a policy of its namespace and name is among these
unfoldable pub HoldsNames : List Key → List Policy → Type 0
HoldsNames keys policies =
    (policy : Policy) → CanSpell policy → list_any (is_at (key_cmp (policy_key policy))) keys ≡ list_any (is_same_entry policy) policies
