use Rattle.std.proofs.Common.{◌≡◌, drop}
use Rattle.var_types.specs.Policies.{covers_unit}
use Rattle.policy_match.proofs.matching.covers_units.Given as goal
use lib.Pointwise.{pointwise}

abbrev pub invariant-loop-at : goal.invariant-loop-at
invariant-loop-at l = pointwise covers_unit (drop l.at l.units) (drop l.at l.name) ≡ pointwise covers_unit l.units l.name
