use Rattle.std.proofs.Common.{◌≡◌}
use Rattle.policy_match.specs.Places.{best_from, counting}
use Rattle.var_types.specs.Key.{key_of}
use Rattle.policy_match.proofs.choice.best_of.Given as goal

abbrev pub invariant-loop-place : goal.invariant-loop-place
invariant-loop-place l = counting l.found (best_from l.policies (key_of l.guid l.name) l.place) ≡ best_from l.policies (key_of l.guid l.name) 0
