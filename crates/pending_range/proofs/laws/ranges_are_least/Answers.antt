use Rattle.pending_range.proofs.Covers.{extended_least, none_covered, whole_covered}
use Rattle.pending_range.proofs.laws.ranges_are_least.Goals as goal

pub returns-clause-none : goal.returns-clause-none
returns-clause-none c = none_covered

pub returns-clause-whole : goal.returns-clause-whole
returns-clause-whole c = whole_covered

pub returns-clause-extended : goal.returns-clause-extended
returns-clause-extended c = extended_least
