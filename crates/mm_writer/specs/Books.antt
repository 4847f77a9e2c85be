-- How a change of one store enters the books.
use Rattle.std.specs.Prelude.{◌≡◌, ℕ, Bool, List, [], ◌∷◌, ◌++◌, length, map, slice_index, All}
use Rattle.mm_writer.specs.declared.books.Books.{Books}
use Rattle.mm_writer.specs.Side.{IsInStore}
use Rattle.pending_range.specs.Ranges.{IsCovered, IsWider}
use Rattle.var_trace.specs.Pieces.{piece_of, with_change}
use Rattle.var_trace.specs.StoreChange.{StoreChange}
use Rattle.var_types.specs.declared.span.Span.{Span}
use Rattle.var_types.specs.declared.store.Store.{Store}
use Rattle.var_types.specs.History.{Entry}
use Rattle.var_types.specs.Spans.{AreWithin, IsWritten}
use Rattle.var_types.specs.Stores.{Stores, bytes_in, with_store}

-- a change was prepared before it was made: it has the store's old bytes in the ranges in which the store was then written
pub record IsPrepared (store : Store) (spans : List Span) (old new : List ℕ) (phase : Bool) (delta : StoreChange) : Type 0 where
  pub is : delta ≡ record { pieces = map (piece_of store old) spans; phase = phase }
  pub within : AreWithin spans (length old)
  pub written : IsWritten spans old new

-- the books after a store's bytes became others: the history has the entry behind the others, with a change that makes the new stores of the old
-- ones, and whose pieces lie within them; the pending ranges cover what they did and each byte that changed; all else is as it was (this project's own)
pub record Enters (store : Store) (old new : List ℕ) (entry : Entry) (before after : Books) : Type 0 where
  pub change : StoreChange
  pub trace : after.trace ≡ record before.trace { log = before.trace.log ++ record { entry = entry; delta = change } ∷ [] }
  pub writes : (stores : Stores) → bytes_in stores store ≡ old → stores.runtime ≡ before.runtime → with_change stores change ≡ with_store stores store new
  pub inside : (stores : Stores) → bytes_in stores store ≡ old → All (IsInStore stores) change.pieces
  pub runtime : after.runtime ≡ before.runtime
  pub flushed : after.flushed ≡ before.flushed
  pub wider : IsWider before.ranges after.ranges
  pub len : length new ≡ length old
  pub covered : (at : ℕ) → (IsCovered after.ranges store at → ⊥) → slice_index new at ≡ slice_index old at

-- a change that writes no bytes, and leaves the service in a phase (this project's own)
abbrev pub phase_change : Bool → StoreChange
phase_change phase = record { pieces = []; phase = phase }

-- the books with an entry behind the others whose change writes no bytes, in a phase
abbrev pub entered_in : Books → Entry → Bool → Books
entered_in books entry phase = record books {
  trace = record books.trace { log = books.trace.log ++ record { entry = entry; delta = phase_change phase } ∷ [] };
  runtime = phase;
}
