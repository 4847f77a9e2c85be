-- What a writer has of its own: its history, its two stores and its image of the flash.
use Rattle.std.specs.Prelude.{ℕ, List}
use Rattle.var_trace.specs.declared.change.Change.{Change}
use Rattle.var_trace.specs.StoresAfter.{history_in}
use Rattle.var_types.specs.declared.key.Key.{Key}
use Rattle.var_types.specs.declared.store.Store.TheVariants.{NonVolatile}
use Rattle.var_types.specs.declared.variable.Variable.{Variable}
use Rattle.var_types.specs.History.{after}
use Rattle.var_types.specs.State.{State}
use Rattle.var_types.specs.Stores.{Stores, part}

-- from where a writer starts: the state of the service, and the two stores with the phase (this project's own)
pub record Opening : Type 0 where
  pub start : State
  pub stores : Stores

-- a writer's own history, stores and image, which run ahead of the world's while a change that it has planned is made (this project's own)
pub record Writer : Type 0 where
  pub log : List Change
  pub stores : Stores
  pub image : List ℕ

-- the state of the service after the first n of some changes
abbrev pub state_at : Opening → List Change → ℕ → State
state_at opening log n = after opening.start (history_in log) n

-- the non-volatile variables after changes
abbrev pub kept_after : Opening → List Change → ℕ → List (Key × Variable)
kept_after opening log n = part NonVolatile (state_at opening log n).variables
