-- The writer's side, beside its flash: the stores and the policies now, and the history of the changes that led to them.
use Rattle.std.specs.Prelude.{◌≡◌, ℕ, ◌≤◌, List, [], ◌∷◌, ◌++◌, length}
use Rattle.pending_range.specs.declared.ranges.Ranges.{Ranges}
use Rattle.pending_range.specs.Ranges.{AgreeOutside}
use Rattle.var_trace.specs.declared.change.Change.{Change}
use Rattle.var_trace.specs.declared.piece.Piece.{Piece}
use Rattle.var_trace.specs.Pieces.{IsWithin}
use Rattle.var_trace.specs.StoresAfter.{bytes_at, history_in, stores_after}
use Rattle.var_types.specs.declared.store.Store.TheVariants.{NonVolatile}
use Rattle.var_types.specs.History.{after, run}
use Rattle.var_types.specs.State.{State, start}
use Rattle.var_types.specs.Stores.{Means, Stores, bytes_in, map_in}
use Rattle.var_types.specs.Walk.{IsSound}

-- what the writer's side holds: the stores and the phase that it opened with, the changes since, how many there may be, the stores and the phase
-- now, which bytes the cache of the stores has yet to take, and how many changes it has taken (EDK II, VariableSmm and
-- VARIABLE_RUNTIME_CACHE_CONTEXT; the history is this project's own)
pub record Side : Type 0 where
  pub opening : Stores
  pub log : List Change
  pub limit : ℕ
  pub stores : Stores
  pub ranges : Ranges
  pub flushed : ℕ

-- the state that a side opened with: the variables of its non-volatile store, and the limit on changes
unfoldable pub first_state : Side → State
first_state side = start (map_in NonVolatile side.opening.non_volatile) side.limit

-- the state of the service on a side: that after its whole history
unfoldable pub state_of : Side → State
state_of side = run (first_state side) (history_in side.log)

-- a side is consistent: its stores are those of its changes; after each number of them the stores mean the state after as many entries; the state
-- counts the changes and has their limit, and is sound; and for each number of changes since the cache's, the stores of then
-- and now are equal outside of the pending ranges (this project's own)
pub record IsConsistent (side : Side) : Type 0 where
  pub stores : side.stores ≡ stores_after side.opening side.log
  pub means : (b : ℕ) → b ≤ length side.log → Means (bytes_at side.opening side.log b) (after (first_state side) (history_in side.log) b)
  pub made : (state_of side).made ≡ length side.log
  pub limit : (state_of side).limit ≡ side.limit
  pub sound : IsSound (state_of side)
  pub flushed : side.flushed ≤ length side.log
  pub pending : (b : ℕ) → side.flushed ≤ b → b ≤ length side.log → AgreeOutside side.ranges (bytes_at side.opening side.log b) side.stores

-- a side with one change more, with these stores and pending ranges now
abbrev pub grown : Side → Change → Stores → Ranges → Side
grown side change stores ranges = record side { log = side.log ++ change ∷ []; stores = stores; ranges = ranges }

-- a piece lies within the bytes of its store
abbrev pub IsInStore : Stores → Piece → Type 0
IsInStore stores piece = IsWithin (length (bytes_in stores piece.store)) piece
