use Rattle.std.proofs.Common.{◌≡◌, ◌++◌, map, take, drop}
use Rattle.std.specs.Int.{from_le_bytes, w16}
use Rattle.runtime_cache.proofs.next_variable_name.put_units.Given as goal

abbrev pub invariant-loop-i : goal.invariant-loop-i
invariant-loop-i l = l.into ≡ map (from_le_bytes w16) (take l.i l.pairs) ++ drop l.i l.initial.into
