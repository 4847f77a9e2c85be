use Rattle.std.proofs.Common.{sym, subst}
use Rattle.pending_range.proofs.Covers.{extended_covers, extended_wider}
use Rattle.pending_range.specs.declared.ranges.Ranges.{Ranges}
use Rattle.pending_range.specs.Ranges.{IsCovered, IsWider, extended}
use Rattle.pending_range.proofs.ranges.Ranges.extend.Goals as goal

pub returns-clause-is : goal.returns-clause-is
unfolding extended
returns-clause-is c = cc

pub returns-clause-wider : goal.returns-clause-wider
returns-clause-wider c =
    subst (IsWider c.args.self.now) (sym (returns-clause-is c)) (extended_wider c.args.self.now c.args.store c.args.from c.args.to)

pub returns-clause-covers : goal.returns-clause-covers
returns-clause-covers c = λ at low high.
    subst (λ (ranges : Ranges). IsCovered ranges c.args.store at) (sym (returns-clause-is c))
    (extended_covers c.args.self.now c.args.store c.args.from c.args.to at low high)
