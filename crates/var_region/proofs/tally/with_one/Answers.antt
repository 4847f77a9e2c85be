use Rattle.std.proofs.Common.{arith}
use Rattle.var_types.specs.declared.record_kind.RecordKind.TheVariants as kind
use Rattle.var_region.proofs.tally.with_one.Goals as goal

pub overflow_add-tally-in-Added : goal.overflow_add-tally-in-Added
overflow_add-tally-in-Added c = let most = c.requires.within kind.Added in omega (arith, most, c.requires.few)

pub overflow_add-tally-in-InTransition : goal.overflow_add-tally-in-InTransition
overflow_add-tally-in-InTransition c = let most = c.requires.within kind.InTransition in omega (arith, most, c.requires.few)

pub overflow_add-tally-in-Deleted : goal.overflow_add-tally-in-Deleted
overflow_add-tally-in-Deleted c = let most = c.requires.within kind.Deleted in omega (arith, most, c.requires.few)

pub overflow_add-tally-in-Other : goal.overflow_add-tally-in-Other
overflow_add-tally-in-Other c = let most = c.requires.within kind.Other in omega (arith, most, c.requires.few)
