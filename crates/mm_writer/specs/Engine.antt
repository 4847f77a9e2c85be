-- The writer's side by its parts.
use Rattle.std.specs.Prelude.{◌≡◌, ℕ, false, List, [], Option, Some, None}
use Rattle.flash_dev.specs.Blank.{blank_volatile}
use Rattle.mm_writer.specs.declared.books.Books.{Books}
use Rattle.mm_writer.specs.Doubt.{IsInDoubt, SetInDoubt, variables_with}
use Rattle.mm_writer.specs.Side.{IsConsistent, Side, first_state, state_of}
use Rattle.pending_range.specs.Ranges.{no_ranges}
use Rattle.policy_table.specs.PolicyState.{PolicyState, policies_of}
use Rattle.set_rules.specs.declared.room_totals.RoomTotals.{RoomTotals}
use Rattle.set_rules.specs.RoomTotals.{IsTotalOf}
use Rattle.var_trace.specs.StoresAfter.{history_in}
use Rattle.var_types.specs.declared.store.Store.TheVariants.{NonVolatile}
use Rattle.var_types.specs.History.{Entry}
use Rattle.var_types.specs.State.{State}
use Rattle.var_types.specs.Stores.{Stores, map_in}

-- the stores at an opening: a volume, a volatile store without variables, and the boot phase (UEFI 2.10, 8.2)
abbrev pub opened_stores : List ℕ → Stores
opened_stores non_volatile = record { non_volatile = non_volatile; volatile = blank_volatile; runtime = false }

-- the side by the volume that it opened with, the bytes of the stores now, and the books
abbrev pub side_by : List ℕ → List ℕ → List ℕ → Books → Side
side_by opened mirror volatile books = record {
  opening = opened_stores opened;
  log = books.trace.log;
  limit = books.trace.limit;
  stores = record { non_volatile = mirror; volatile = volatile; runtime = books.runtime };
  ranges = books.ranges;
  flushed = books.flushed;
}

-- the books at an opening: an empty history with a limit, ranges that cover nothing, and the boot phase
abbrev pub opened_books : ℕ → Books
opened_books limit = record { trace = record { log = []; limit = limit }; ranges = no_ranges; flushed = 0; runtime = false }

-- the side that was opened over a volume, with a limit on changes: its stores are those at an opening, and its history is empty
abbrev pub opened_side : List ℕ → ℕ → Side
opened_side non_volatile limit = side_by non_volatile non_volatile blank_volatile (opened_books limit)

-- what the writer's side keeps of its parts: the side is consistent, the totals are the room of its variables, and the policies are its state's
pub record IsKept (side : Side) (totals : RoomTotals) (table : PolicyState) : Type 0 where
  pub consistent : IsConsistent side
  pub rooms : IsTotalOf totals (state_of side).variables
  pub policies : policies_of (state_of side) ≡ table

-- a set is in doubt behind a history, and the bytes that its change was to leave have the variables that it would leave at its place
pub record IsDoubted (first : State) (history : List Entry) (set : SetInDoubt) (after : List ℕ) : Type 0 where
  pub is : IsInDoubt first history set
  pub map : map_in NonVolatile after ≡ variables_with first history set

-- where the store is in doubt of a change, it is that of the set that failed last
abbrev pub AreDoubted : State → List Entry → SetInDoubt → Option (List ℕ) → Type 0
AreDoubted first history set None = Unit {0}
AreDoubted first history set (Some after) = IsDoubted first history set after

-- what the engine keeps of its parts: those of the side, and which set failed last
pub record IsEngine (side : Side) (totals : RoomTotals) (table : PolicyState) (set : SetInDoubt) (after : Option (List ℕ)) : Type 0 where
  pub kept : IsKept side totals table
  pub doubted : AreDoubted (first_state side) (history_in side.log) set after
