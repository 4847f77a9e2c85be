use Rattle.std.proofs.Common.{◌≡◌}
use Rattle.var_types.specs.declared.record_kind.RecordKind.{RecordKind}
use Rattle.var_types.specs.declared.record_kind.RecordKind.TheVariants as kind
use Rattle.var_types.specs.Census.{count_of}
use Rattle.var_types.specs.Region.{region_records}
use Rattle.var_region.proofs.region.Region.tally.Goals as goal

pub returns-clause-added : goal.returns-clause-added
unfolding count_of region_records
returns-clause-added c = rw (← c.self.view_is) (c.tally_of.ensures.counted kind.Added)

pub returns-clause-transition : goal.returns-clause-transition
unfolding count_of region_records
returns-clause-transition c = rw (← c.self.view_is) (c.tally_of.ensures.counted kind.InTransition)

pub returns-clause-deleted : goal.returns-clause-deleted
unfolding count_of region_records
returns-clause-deleted c = rw (← c.self.view_is) (c.tally_of.ensures.counted kind.Deleted)

pub returns-clause-other : goal.returns-clause-other
unfolding count_of region_records
returns-clause-other c = rw (← c.self.view_is) (c.tally_of.ensures.counted kind.Other)
