use Rattle.std.proofs.Common.{rules, sym, arith}
use Rattle.var_types.specs.Record.{Authenticated}
use Rattle.var_types.proofs.Censuses.{few_records}
use Rattle.var_region.specs.Tallies.{of_kind}
use Rattle.var_region.proofs.Tallied.{none_counted, none_numbered, one_counted, one_numbered}
use Rattle.var_region.proofs.tally.tally_of.Goals as goal

pub with_one-tally-requires-clause-few : goal.with_one-tally-requires-clause-few
with_one-tally-requires-clause-few c =
    omega (arith, c.records.invariant.number, few_records Authenticated c.args.bytes.now c.args.first, c.requires.few)

pub records-preserved : goal.records-preserved
records-preserved c =
    let bytes = c.args.bytes.now in
    let at = c.records.at in
    let next = c.next_offset-at.result in
    let r = c.in-Some.record in
    record {
      counted = λ wanted.
          one_counted c.args.non_volatile bytes at next r wanted c.kind_of.result (of_kind wanted c.records.tally)
          (of_kind wanted c.with_one-tally.result) _ (sym c.in-Some.ensures.is) c.next_offset-at.ensures c.kind_of.ensures (c.with_one-tally.ensures.counted wanted)
          (c.records.invariant.counted wanted);
      number =
          one_numbered c.args.non_volatile bytes at next r c.records.tally.records c.with_one-tally.result.records _ (sym c.in-Some.ensures.is)
          c.next_offset-at.ensures c.with_one-tally.ensures.records c.records.invariant.number;
      within = c.with_one-tally.ensures.within;
      near = search (rules, c.in-Some.ensures.within);
    }

pub returns-clause-records : goal.returns-clause-records
returns-clause-records c =
    none_numbered c.args.non_volatile c.args.bytes.now c.records.at c.records.tally.records _ (sym c.in_default.ensures.is) c.records.invariant.number

pub returns-clause-counted : goal.returns-clause-counted
returns-clause-counted c = λ wanted.
    none_counted c.args.non_volatile c.args.bytes.now c.records.at wanted (of_kind wanted c.records.tally) _ (sym c.in_default.ensures.is)
    (c.records.invariant.counted wanted)
