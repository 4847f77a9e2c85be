-- The states of the service that a view for one key stands for.
use Rattle.std.specs.Prelude.{◌≡◌}
use Rattle.std.specs.BTreeMap.{is_at}
use Rattle.std.specs.Map.{remove_entry}
use Rattle.std.specs.Option.{option_copied}
use Rattle.policy_table.specs.PolicyState.{policies_of}
use Rattle.svc_plain.specs.declared.map_view.MapView.{MapView}
use Rattle.svc_plain.specs.declared.key_view.KeyView.{KeyView}
use Rattle.set_rules.specs.RoomTotals.{IsTotalOf}
use Rattle.var_types.specs.Key.{key_cmp}
use Rattle.var_types.specs.State.{State, stored_at}

-- a map keeps the variables of a state
abbrev pub Keeps : MapView → State → Type 0
Keeps view state = view.variables.now.entries ≡ state.variables

-- a view for a key stands for a state: what it found is stored there, its totals are those of the other variables, and variables, policies,
-- phase, changes and limit are the state's
pub record Stands (view : KeyView) (state : State) : Type 0 where
  pub found : option_copied view.found ≡ stored_at state view.key.now
  pub rest : IsTotalOf view.rest (remove_entry (is_at (key_cmp view.key.now)) state.variables)
  pub variables : view.variables.now.entries ≡ state.variables
  pub policies : policies_of state ≡ view.table.now
  pub runtime : view.runtime ≡ state.runtime
  pub made : view.made ≡ state.made
  pub limit : view.limit ≡ state.limit
