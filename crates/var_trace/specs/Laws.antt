use Rattle.std.specs.Prelude.{◌≡◌, ℕ, ◌≤◌, Bool, List, ◌++◌, length, map, slice_index}
use Rattle.var_types.specs.declared.span.Span.{Span}
use Rattle.var_types.specs.declared.store.Store.{Store}
use Rattle.var_types.specs.Spans.{AreWithin, IsInside, IsWritten}
use Rattle.var_types.specs.Stores.{Stores, bytes_in, with_store}
use Rattle.var_trace.specs.declared.change.Change.{Change}
use Rattle.var_trace.specs.Pieces.{piece_of, refreshed, with_change}
use Rattle.var_trace.specs.StoresAfter.{bytes_at, stores_after}

-- pieces of the old bytes in some ranges, which then take the new bytes there, make the change: written over the old stores they give the new
-- ones, where the store was written in these ranges alone
abbrev pub SpansMakeTheChange : Type 0
SpansMakeTheChange =
    (store : Store) (spans : List Span) (old new : List ℕ) (stores : Stores) (phase : Bool)
    → AreWithin spans (length old) → IsWritten spans old new → bytes_in stores store ≡ old
    → with_change stores (record { pieces = map (refreshed new) (map (piece_of store old) spans); phase = phase })
    ≡ record (with_store stores store new) { runtime = phase }

-- a store that was written in some ranges alone is as it was everywhere else
abbrev pub WrittenSpansChangeNothingElse : Type 0
WrittenSpansChangeNothingElse =
    (spans : List Span) (old new : List ℕ) (at : ℕ) → AreWithin spans (length old) → IsWritten spans old new → (IsInside at spans → ⊥)
    → slice_index new at ≡ slice_index old at

-- what the stores after the first changes of a longer history are
pub record AreAfter (opening : Stores) (log more : List Change) : Type 0 where
  pub same : (b : ℕ) → b ≤ length log → bytes_at opening (log ++ more) b ≡ bytes_at opening log b
  pub behind : stores_after opening (log ++ more) ≡ stores_after (stores_after opening log) more
  pub all : bytes_at opening log (length log) ≡ stores_after opening log

-- the stores after a history that grows
abbrev pub ChangesFollowTheHistory : Type 0
ChangesFollowTheHistory = (opening : Stores) (log more : List Change) → AreAfter opening log more
