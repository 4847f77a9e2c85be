-- The states of the service that the writer's side stands for.
use Rattle.std.specs.BTreeMap.{is_at}
use Rattle.std.specs.Map.{lookup, remove_entry}
use Rattle.std.specs.Option.{option_map}
use Rattle.std.specs.Prelude.{◌≡◌, List}
use Rattle.mm_writer.specs.declared.key_view.KeyView.{KeyView}
use Rattle.mm_writer.specs.declared.view.EngineView.{EngineView}
use Rattle.policy_table.specs.PolicyState.{policies_of}
use Rattle.set_rules.specs.declared.room_totals.RoomTotals.{RoomTotals}
use Rattle.set_rules.specs.RoomTotals.{IsTotalOf, totals_without}
use Rattle.var_region.specs.Found.{seen_variable}
use Rattle.var_types.specs.declared.key.Key.{Key}
use Rattle.var_types.specs.declared.store.Store.TheVariants.{NonVolatile, Volatile}
use Rattle.var_types.specs.declared.variable.Variable.{Variable}
use Rattle.var_types.specs.Key.{key_cmp}
use Rattle.var_types.specs.Region.{region_map}
use Rattle.var_types.specs.State.{State}
use Rattle.var_types.specs.Stores.{part}
use Rattle.var_types.specs.TwoRegions.{joined}
use Rattle.var_types.specs.TwoRegionsLaws.{AreOrdered}

-- a view of the two stores stands for a state: they hold its variables, each those that are kept in it; the totals are theirs; and policies,
-- phase, changes and limit are the state's
pub record Stands (view : EngineView) (state : State) : Type 0 where
  pub ordered : AreOrdered state.variables
  pub non_volatile : region_map view.non_volatile ≡ part NonVolatile state.variables
  pub volatile : region_map view.volatile ≡ part Volatile state.variables
  pub totals : IsTotalOf view.totals state.variables
  pub policies : policies_of state ≡ view.policies.now
  pub runtime : view.runtime ≡ state.runtime
  pub made : view.made ≡ state.made
  pub limit : view.limit ≡ state.limit

-- a view for one key knows that key: what was found is what stands there, and the totals are those without it
pub record Knows (view : KeyView) (key : Key) : Type 0 where
  pub found : option_map seen_variable view.found ≡ lookup (is_at (key_cmp key)) (joined (region_map view.view.non_volatile) (region_map view.view.volatile))
  pub rest : view.rest ≡ totals_without view.view.totals key (option_map seen_variable view.found)

-- room totals are those of the variables of all keys but one (this project's own)
abbrev pub IsTotalWithout : RoomTotals → Key → List (Key × Variable) → Type 0
IsTotalWithout rest key variables = IsTotalOf rest (remove_entry (is_at (key_cmp key)) variables)
