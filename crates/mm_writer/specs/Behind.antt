-- A cache that lacks the last changes of the writer's side.
use Rattle.std.specs.Prelude.{◌≡◌, ℕ, ◌≤◌, length}
use Rattle.mm_writer.specs.Side.{Side}
use Rattle.pending_range.specs.Ranges.{no_ranges}
use Rattle.var_trace.specs.StoresAfter.{bytes_at}
use Rattle.var_types.specs.Stores.{Stores}

-- a cache is the stores and the phase after so many changes of a side, and has taken at least those that the side counts as taken (EDK II,
-- VARIABLE_RUNTIME_CACHE_CONTEXT, PendingUpdate)
pub record IsBehind (side : Side) (cache : Stores) : Type 0 where
  pub taken : ℕ
  pub least : side.flushed ≤ taken
  pub most : taken ≤ length side.log
  pub is : cache ≡ bytes_at side.opening side.log taken

-- the side whose cache has taken all changes: nothing is pending
abbrev pub merged_side : Side → Side
merged_side side = record side { ranges = no_ranges; flushed = length side.log }
