use Rattle.std.proofs.Common.{arith}
use Rattle.script_text.proofs.NameLemmas.{no_unit, next_unit, over_limit, all_units}
use Rattle.script_text.proofs.names.units_of.Goals as goal

pub returns-in_default-clause-err : goal.returns-in_default-clause-err
returns-in_default-clause-err c = no_unit c.units.units.items c.units.rest.now c.args.word.now c.units-test.ensures c.in_default.ensures.value c.units.invariant.all_units

pub returns-then-len-ge-MOST_UNITS-clause-err : goal.returns-then-len-ge-MOST_UNITS-clause-err
returns-then-len-ge-MOST_UNITS-clause-err c =
    over_limit c.units.units.items c.units.rest.now c.args.word.now c.in-Some.unit c.in-Some.behind.now c.units-test.ensures c.in-Some.ensures.value c.units.invariant.all_units (omega arith)

pub units-preserved : goal.units-preserved
units-preserved c = record {
  all_units = rw c.in_ok-push.ensures.items (next_unit c.units.units.items c.units.rest.now c.args.word.now c.in-Some.unit c.in-Some.behind.now c.units-test.ensures c.in-Some.ensures.value c.units.invariant.all_units);
  limit = omega arith;
}

pub returns-clause-ok : goal.returns-clause-ok
returns-clause-ok c = all_units c.units.units.items c.units.rest.now c.args.word.now c.units-test.ensures c.units.invariant.all_units c.units.invariant.limit
