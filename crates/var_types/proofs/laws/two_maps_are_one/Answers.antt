use Rattle.var_types.proofs.Joined.{apart-parts, find-joined, joined-parts, joined_ordered, lookup-joined}
use Rattle.var_types.proofs.laws.two_maps_are_one.Goals as goal

pub returns-clause-ordered : goal.returns-clause-ordered
returns-clause-ordered c = joined_ordered

pub returns-clause-look_ups : goal.returns-clause-look_ups
returns-clause-look_ups c = lookup-joined

pub returns-clause-first : goal.returns-clause-first
returns-clause-first c = find-joined

pub returns-clause-parts : goal.returns-clause-parts
returns-clause-parts c = λ test entries ordered. (apart-parts test entries ordered, joined-parts test entries ordered)
