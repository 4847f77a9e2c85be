-- A set of which it is not known whether the flash keeps its change.
use Rattle.std.specs.Prelude.{◌≡◌, ℕ, ◌≤◌, List, length, Option, Some, None}
use Rattle.var_types.specs.declared.call.SetCall.{SetCall}
use Rattle.var_types.specs.declared.key.Key.{Key}
use Rattle.var_types.specs.declared.store.Store.TheVariants.{NonVolatile}
use Rattle.var_types.specs.declared.variable.Variable.{Variable}
use Rattle.var_types.specs.DeviceErrors.{IsNonVolatileChange}
use Rattle.var_types.specs.History.{Entry, after}
use Rattle.var_types.specs.Set.{set_step}
use Rattle.var_types.specs.State.{State}
use Rattle.var_types.specs.Stores.{part}

-- a set that failed, by name: its processor, its index among the calls of that processor, how many changes were made before it, and its call (this
-- project's own)
pub record SetInDoubt : Type 0 where
  pub processor : ℕ
  pub index : ℕ
  pub place : ℕ
  pub call : SetCall

-- the non-volatile variables after the first k changes of a history from a state
abbrev pub variables_at : State → List Entry → ℕ → List (Key × Variable)
variables_at first history k = part NonVolatile (after first history k).variables

-- those that a set would leave at its place in the history
abbrev pub variables_with : State → List Entry → SetInDoubt → List (Key × Variable)
variables_with first history set = part NonVolatile (set_step (after first history set.place) set.call).1.variables

-- a set may be in doubt behind a history: it was to change a non-volatile variable at its place there, and no change since then changes one (this
-- project's own)
pub record IsInDoubt (first : State) (history : List Entry) (set : SetInDoubt) : Type 0 where
  pub place : set.place ≤ length history
  pub fails : IsNonVolatileChange (after first history set.place) set.call
  pub quiet : (k : ℕ) → set.place ≤ k → k ≤ length history → variables_at first history k ≡ variables_at first history set.place

-- the set in doubt, where the store is in doubt of a change: that which failed last
abbrev pub doubt_by : Option (List ℕ) → SetInDoubt → Option SetInDoubt
doubt_by None set = None
doubt_by (Some after) set = Some set
