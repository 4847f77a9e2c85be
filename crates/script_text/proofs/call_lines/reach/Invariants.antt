use Rattle.std.proofs.Common.{◌≡◌, ◌+◌, ◌-◌, length, map}
use Rattle.script_text.specs.Reached.{reached}
use Rattle.script_text.proofs.call_lines.reach.Given as goal

abbrev pub invariant-reached : goal.invariant-reached
invariant-reached l =
    reached (map (λ v. v.items) l.processors.items) l.processor ≡ reached (map (λ v. v.items) l.initial.processors.items) l.processor

abbrev pub decreases-reached : goal.decreases-reached
decreases-reached l = l.processor + 1 - length l.processors.items
