use Rattle.std.proofs.Common.{◌≡◌, ◌-◌, length}
use Rattle.var_region.specs.Lives.{lives_at}
use Rattle.var_region.proofs.lives.next_live.Given as goal

abbrev pub invariant-records : goal.invariant-records
invariant-records l = lives_at l.non_volatile l.bytes l.at ≡ lives_at l.non_volatile l.bytes l.initial.at

abbrev pub decreases-records : goal.decreases-records
decreases-records l = length l.bytes - l.at
