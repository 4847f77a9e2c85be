use Rattle.std.proofs.Common.{◌≡◌, ◌&&◌, find}
use Rattle.std.specs.Option.{option_copied}
use Rattle.var_types.specs.Least.{is_shown}
use Rattle.var_types.specs.Next.{is_above}
use Rattle.svc_plain.proofs.next.key_above.Given as goal

abbrev pub invariant-loop-key : goal.invariant-loop-key
invariant-loop-key l =
    find (λ e. is_shown l.runtime e.1) l.key-iterator
    ≡ find (λ e. is_shown l.runtime e.1 && is_above (option_copied l.bound) e.0) l.variables.entries
