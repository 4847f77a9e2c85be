use Rattle.std.specs.Prelude.{Option, Some, None}
use Rattle.std.specs.declared.ops.Bound.{Bound}
use Rattle.std.specs.declared.ops.Bound.TheVariants.{Excluded, Unbounded}
use Rattle.var_types.specs.declared.key.Key.{Key}

-- where a range of the keys above a bound starts
abbrev pub start_above : Option Key → Bound Key
start_above None = Unbounded
start_above (Some bound) = Excluded bound
