-- The history of recorded changes, and the stores after the first of them.
use Rattle.std.specs.Prelude.{ℕ, List, [], ◌∷◌, map, take}
use Rattle.var_types.specs.History.{Entry}
use Rattle.var_types.specs.Stores.{Stores}
use Rattle.var_trace.specs.declared.change.Change.{Change}
use Rattle.var_trace.specs.Pieces.{with_change}

-- the history that changes make
abbrev pub history_in : List Change → List Entry
history_in log = map (λ change. change.entry) log

-- the two stores and the phase after changes, one after the other (this project's own)
abbrev pub stores_after : Stores → List Change → Stores
stores_after stores [] = stores
stores_after stores (change ∷ log) = stores_after (with_change stores change.delta) log

-- the two stores and the phase after the first b changes (this project's own)
abbrev pub bytes_at : Stores → List Change → ℕ → Stores
bytes_at opening log b = stores_after opening (take b log)
